-- The code as a list of bytes: the byte at a place, or none past the end (decision D26).
use Rattle.std.specs.Prelude.{ℕ, zero, suc, ◌+◌, ◌*◌, Bool, false, cond, List, get_or, eqb, Option, Some, None, slice_get}
use Rattle.std.specs.Option.{option_and_then}
use Rattle.opcode.specs.Lists.{push_size}

-- is there a byte, and is it b?
abbrev pub holds_byte : Option ℕ → ℕ → Bool
holds_byte None b = false
holds_byte (Some x) b = eqb x b

-- does the byte b stand at the place?
unfoldable pub is_at : List ℕ → ℕ → ℕ → Bool
is_at code at b = holds_byte (slice_get code at) b

-- the place after b if b stands there, else the place itself
unfoldable pub past_byte : List ℕ → ℕ → ℕ → ℕ
past_byte code at b = at + cond (is_at code at b) 1 0

-- how many bytes the PUSH1 to PUSH4 at the place pushes, if one of them stands there
unfoldable pub push_size_at : List ℕ → ℕ → Option ℕ
push_size_at code at = option_and_then push_size (slice_get code at)

-- the number that n bytes from the place on stand for (Yellow Paper, PUSH: "The bytes are right-aligned (takes the
-- lowest significant place in big endian)"). The readings below ask it only where a byte stands behind the n
unfoldable pub number_at : List ℕ → ℕ → ℕ → ℕ
number_at code at zero = 0
number_at code at (suc n) = number_at code at n * 256 + get_or code (at + n) 0
