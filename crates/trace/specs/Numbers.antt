-- "Standard input, u32 little-endian": numbers from bytes. The printer reads by these; no public call's outcome is
-- written with them.
use Rattle.std.specs.Prelude.{ℕ, zero, suc, ◌+◌, ◌*◌, List, [], ◌∷◌, ◌++◌, get_or}
use Rattle.limits.specs.Input.{number_bytes}

-- the number whose lowest byte stands at an index
unfoldable pub number_at : List ℕ → ℕ → ℕ
number_at bytes at =
    get_or bytes at 0 + 256 * get_or bytes (at + 1) 0 + 65536 * get_or bytes (at + 2) 0 + 16777216 * get_or bytes (at + 3) 0

-- the first n numbers, four bytes each
unfoldable pub numbers_of : ℕ → List ℕ → List ℕ
numbers_of zero bytes = []
numbers_of (suc n) bytes = numbers_of n bytes ++ (number_at bytes (n * number_bytes) ∷ [])
