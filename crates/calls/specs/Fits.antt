-- Numbers of 32 bits, as a host hands them over.
use Rattle.std.specs.Prelude.{ℕ, ◌<◌, ◌^◌, List, length, get_or}

-- a number of 32 bits
abbrev pub IsU32 : ℕ → Type 0
IsU32 n = n < 2 ^ 32

-- each number of a list is one
abbrev pub AreU32 : List ℕ → Type 0
AreU32 xs = (i : ℕ) → i < length xs → IsU32 (get_or xs i 0)
