-- A type as its first code and the types that follow it: words of the laws; no outcome is written with them.
use Rattle.std.specs.Prelude.{ℕ, ◌+◌}
use Rattle.limits.specs.Codes as code
use Rattle.names.specs.Elementary.{code_of}
use Rattle.types.specs.Tree.{AbiType, AbiTypes, elementary, array, tuple, nil, cons, count}

-- the first code
unfoldable pub root : AbiType → ℕ
root (elementary e) = code_of e
root (array t) = code.array
root (tuple ts) = code.tuple + count ts

-- the types that follow it
unfoldable pub parts : AbiType → AbiTypes
parts (elementary e) = nil
parts (array t) = cons t nil
parts (tuple ts) = ts
