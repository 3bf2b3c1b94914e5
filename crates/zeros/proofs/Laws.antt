-- What numbers that all pass are, one by one.
use Prim.Native.Nat.{ℕ, zero, suc, ◌+◌, ◌≤◌, ◌<◌}
use mathlib.Core.Path.{◌≡◌, refl}
use mathlib.Core.Bool.{Bool, true, and-eq-true_iff}
use mathlib.Core.Logic.{⊎_elim}
use mathlib.Core.List.{List}
use native.Mathlib.Nat.{eq-or-lt_of_le}
use native.Mathlib.Omega.{arith}
use borrow.Author.Tests.{eqb-true, eq-eqb}
use lib.Dec.{eqb}
use lib.ListN.{get_or}
use Rattle.zeros.specs.Zeros.{all_to, zeros}

-- all below n pass: each does
pub all_each : (test : ℕ → Bool) (n : ℕ) → all_to test n ≡ true → (i : ℕ) → i < n → test i ≡ true
unfolding all_to
all_each test zero e i l = absurd (omega arith)
all_each test (suc n) e i l =
    let p = (and-eq-true_iff (all_to test n) (test n)).0 e in
    ⊎_elim (λ (q : i ≡ n). rw q p.1) (λ (h : i < n). all_each test n p.0 i h) (eq-or-lt_of_le (let h : i ≤ n = omega arith in h))

-- and the other way round
pub each_all : (test : ℕ → Bool) (n : ℕ) → ((i : ℕ) → i < n → test i ≡ true) → all_to test n ≡ true
unfolding all_to
each_all test zero f = refl
each_all test (suc n) f = (and-eq-true_iff (all_to test n) (test n)).1 (each_all test n (λ i l. f i (omega arith)), f n (omega arith))

module _ (s : List ℕ) (at n : ℕ) where
  pub zeros_each : zeros s at n ≡ true → (i : ℕ) → i < n → get_or s (at + i) 0 ≡ 0
  zeros_each e i l = eqb-true (get_or s (at + i) 0) 0 (all_each (λ j. eqb (get_or s (at + j) 0) 0) n e i l)

  pub each_zeros : ((i : ℕ) → i < n → get_or s (at + i) 0 ≡ 0) → zeros s at n ≡ true
  each_zeros f = each_all (λ j. eqb (get_or s (at + j) 0) 0) n (λ i l. eq-eqb (get_or s (at + i) 0) 0 (f i l))
