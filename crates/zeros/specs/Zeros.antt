-- Numbers that are all zero.
use Rattle.std.specs.Prelude.{ℕ, zero, suc, ◌+◌, Bool, true, ◌&&◌, List, eqb, get_or}

-- do the numbers below n all pass?
unfoldable pub all_to : (ℕ → Bool) → ℕ → Bool
all_to test zero = true
all_to test (suc n) = all_to test n && test n

-- are n numbers of s from `at` on all zero?
abbrev pub zeros : List ℕ → ℕ → ℕ → Bool
zeros s at n = all_to (λ i. eqb (get_or s (at + i) 0) 0) n
