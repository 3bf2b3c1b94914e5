-- A number in decimal, with no zero in front.
use Rattle.std.specs.Prelude.{ℕ, zero, suc, ◌+◌, ◌/◌, ◌%◌, cond, List, [], ◌∷◌, ◌++◌, ltb}
use Prim.Native.Char.{code}

abbrev pub digit : ℕ → ℕ
digit d = code "0" + d

-- the digits of a number that has at most k besides the first
unfoldable pub decimal_to : ℕ → ℕ → List ℕ
decimal_to zero n = digit n ∷ []
decimal_to (suc k) n = cond (ltb n 10) (digit n ∷ []) (decimal_to k (n / 10) ++ (digit (n % 10) ∷ []))

-- a u32 has ten digits at most
unfoldable pub decimal : ℕ → List ℕ
decimal n = decimal_to 9 n
