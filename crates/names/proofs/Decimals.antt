-- A number in decimal: its last digit behind the others, and how many there are.
use mathlib.Core.Path.{◌≡◌, refl, sym, ap, ◌∙◌}
use mathlib.Core.List.{List, [], ◌∷◌, ◌++◌}
use Prim.Native.Nat.{ℕ, zero, suc, ◌+◌, ◌/◌, ◌%◌, ◌^◌, ◌≤◌, ◌<◌}
use native.Mathlib.Nat.{pow-suc}
use native.Mathlib.Decide.{dec_lt}
use native.Mathlib.Omega.{arith}
use borrow.Author.Tests.{lt-ltb, le-ltb}
use lib.ListN.{length, length-append}
use Rattle.names.specs.Decimal.{digit, decimal_to, decimal}

module _ (n : ℕ) where
  last : (k : ℕ) → 10 ≤ n → decimal_to (suc k) n ≡ decimal_to k (n / 10) ++ (digit (n % 10) ∷ [])
  unfolding decimal_to
  last k h = simp (le-ltb n 10 h)

  lone : (k : ℕ) → n < 10 → decimal_to k n ≡ digit n ∷ []
  unfolding decimal_to
  lone zero h = refl
  lone (suc k) h = simp (lt-ltb n 10 h)

-- with room for more digits a number is spelt alike
same : (k n : ℕ) → n < 10 ^ suc k → decimal_to k n ≡ decimal_to (suc k) n
same zero n h = lone n 0 h ∙ sym (lone n 1 h)
same (suc k) n h = go (dec_lt n 10) (same k (n / 10) (omega (arith, pow-suc 10 (suc k))))
  where
    go : Dec (n < 10) → decimal_to k (n / 10) ≡ decimal_to (suc k) (n / 10)
        → decimal_to (suc k) n ≡ decimal_to (suc (suc k)) n
    go (yes p) e = lone n (suc k) p ∙ sym (lone n (suc (suc k)) p)
    go (no p) e = last n k (omega arith) ∙ rw e (sym (last n (suc k) (omega arith)))

-- one digit, and at most k more
short : (k n : ℕ) → length (decimal_to k n) ≤ suc k
unfolding decimal_to
short zero n = omega arith
short (suc k) n = go (dec_lt n 10) (short k (n / 10))
  where
    go : Dec (n < 10) → length (decimal_to k (n / 10)) ≤ suc k → length (decimal_to (suc k) n) ≤ suc (suc k)
    go (yes p) l = omega (arith, ap length (lone n (suc k) p))
    go (no p) l =
        omega (arith, ap length (last n k (omega arith)), length-append (decimal_to k (n / 10)) (digit (n % 10) ∷ []))

module _ (n : ℕ) where
  pub decimal_short : length (decimal n) ≤ 10
  unfolding decimal
  decimal_short = short 9 n

  pub decimal_one : n < 10 → decimal n ≡ digit n ∷ []
  unfolding decimal
  decimal_one h = lone n 9 h

  -- the last digit stands behind those of a tenth
  pub decimal_more : 10 ≤ n → n < 2 ^ 32 → decimal n ≡ decimal (n / 10) ++ (digit (n % 10) ∷ [])
  unfolding decimal
  decimal_more l h = last n 8 l ∙ ap (λ (l : List ℕ). l ++ (digit (n % 10) ∷ [])) (same 8 (n / 10) (omega arith))

  pub decimal_longer : 10 ≤ n → n < 2 ^ 32 → length (decimal n) ≡ length (decimal (n / 10)) + 1
  decimal_longer l h =
      omega (arith, ap length (decimal_more l h), length-append (decimal (n / 10)) (digit (n % 10) ∷ []))

-- three digits at most below 1,000
pub width_short : (n : ℕ) → n < 1000 → length (decimal n) ≤ 3
width_short n h = go (dec_lt n 10) (dec_lt n 100)
  where
    go : Dec (n < 10) → Dec (n < 100) → length (decimal n) ≤ 3
    go (yes p) q = omega (arith, ap length (decimal_one n p))
    go (no p) (yes q) =
        omega (arith, decimal_longer n (omega arith) (omega arith), ap length (decimal_one (n / 10) (omega arith)))
    go (no p) (no q) =
        omega (
          arith,
          decimal_longer n (omega arith) (omega arith),
          decimal_longer (n / 10) (omega arith) (omega arith),
          ap length (decimal_one (n / 10 / 10) (omega arith)),
        )
