-- An entry of a list.
use Rattle.std.specs.Prelude.{ℕ, zero, suc}
use Rattle.types.specs.Tree.{AbiType, AbiTypes, nil, cons}
use Rattle.list.specs.Types.{uint256}

-- "Words and entries count from 0.": entry k of a list. (Beyond the list's end, which is never asked, uint256.)
unfoldable pub entry_of : ℕ → AbiTypes → AbiType
entry_of k nil = uint256
entry_of zero (cons t ts) = t
entry_of (suc k) (cons t ts) = entry_of k ts
