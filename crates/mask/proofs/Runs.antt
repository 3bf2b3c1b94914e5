-- m AND (m + 1) is zero just where m + 1 is a power of two, and then the power is the number of m's ones.
use Rattle.std.proofs.Common.{Some, None}
use mathlib.Core.Path.{◌≡◌, refl, sym, ap, ◌∙◌}
use mathlib.Core.Bool.{Bool, true, false}
use Prim.Native.Nat.{ℕ, suc, ◌+◌, ◌-◌, ◌*◌, ◌/◌, ◌%◌, ◌^◌, ◌≤◌, ◌<◌}
use native.Mathlib.Nat.{pow-suc, one-mul, mod-eq_of_lt}
use native.Mathlib.Decide.{dec_lt}
use native.Mathlib.Omega.{arith}
use lib.Arith.{bin_ind}
use lib.Bits.{bit_and, and_step, and_self, and_comm, and_zero_r, and_shifted}
use lib.Count.{ones, ones-ones, ones-le}
use lib.Dec.{eqb}
use lib.Pow.{pow-lt}
use borrow.Author.Tests.{eqb-true, eqb-false}
use Rattle.mask.specs.Run.{Run}

-- no bit in common: by halving, m is 0 or odd with the same of its half
pub apart_power : (m : ℕ) → bit_and m (m + 1) ≡ 0 → (k : ℕ) × (m + 1 ≡ 2 ^ k)
apart_power = bin_ind (λ (m : ℕ). bit_and m (m + 1) ≡ 0 → (k : ℕ) × (m + 1 ≡ 2 ^ k)) (λ h. (0, refl)) halve
  where
    halve : (m : ℕ) → (bit_and (m / 2) (m / 2 + 1) ≡ 0 → (k : ℕ) × (m / 2 + 1 ≡ 2 ^ k)) → bit_and m (m + 1) ≡ 0 → (k : ℕ) × (m + 1 ≡ 2 ^ k)
    halve m half h = go (dec_lt (m % 2) 1)
      where
        high : bit_and (m / 2) ((m + 1) / 2) ≡ 0
        high = omega (arith, and_step m (m + 1))

        go : Dec (m % 2 < 1) → (k : ℕ) × (m + 1 ≡ 2 ^ k)
        go (yes even) =
            let e : (m + 1) / 2 ≡ m / 2 = omega arith in
            let zero : m / 2 ≡ 0 = sym (and_self (m / 2)) ∙ (rw e at high) in
            (0, omega arith)
        go (no odd) =
            let e : (m + 1) / 2 ≡ m / 2 + 1 = omega arith in
            let k = half (rw e at high) in
            (suc k.0, omega (arith, pow-suc 2 k.0, k.1))

-- a power of two is known by the ones below it
pub power_ones : (m k : ℕ) → m + 1 ≡ 2 ^ k → ones m ≡ k
power_ones m k e = let f : m ≡ 2 ^ k - 1 = omega arith in ap ones f ∙ ones-ones k

-- the same in 256 bits, where m + 1 may wrap to 0
power_wrapped : (M m : ℕ) → m < M → M ≡ 2 ^ 256 → bit_and m ((m + 1) % M) ≡ 0 → m + 1 ≡ 2 ^ ones m
power_wrapped M m h eM z = go (dec_lt (m + 1) M)
  where
    by : (k : ℕ) → m + 1 ≡ 2 ^ k → m + 1 ≡ 2 ^ ones m
    by k e = e ∙ ap (λ (n : ℕ). 2 ^ n) (sym (power_ones m k e))

    go : Dec (m + 1 < M) → m + 1 ≡ 2 ^ ones m
    go (yes l) = let k = apart_power m (rw (mod-eq_of_lt l) at z) in by k.0 k.1
    go (no l) = by 256 (let e : m + 1 ≡ M = omega arith in e ∙ eM)

power_apart : (m k : ℕ) → k ≤ 256 → m + 1 ≡ 2 ^ k → bit_and m ((m + 1) % 2 ^ 256) ≡ 0
power_apart m k h e = ap (λ (n : ℕ). bit_and m (n % 2 ^ 256)) e ∙ go (dec_lt k 256)
  where
    go : Dec (k < 256) → bit_and m (2 ^ k % 2 ^ 256) ≡ 0
    go (yes l) =
        ap (bit_and m) (mod-eq_of_lt (pow-lt l) ∙ sym (one-mul (2 ^ k))) ∙ and_comm m (1 * 2 ^ k) ∙ and_shifted 1 k m (omega arith)
    go (no l) = let f : k ≡ 256 = omega arith in ap (λ (n : ℕ). bit_and m (2 ^ n % 2 ^ 256)) f ∙ and_zero_r m

-- what the code computes: next is m + 1, both their AND, and test says whether that is zero
module _ (m next both : ℕ) (test : Bool) (en : next ≡ (m + 1) % 2 ^ 256) (eb : both ≡ bit_and m next) (et : test ≡ eqb both 0) where
  common : both ≡ bit_and m ((m + 1) % 2 ^ 256)
  common = eb ∙ ap (bit_and m) en

  pub run_of_ones : (r : ℕ) → m < 2 ^ 256 → test ≡ true → r ≡ ones m → Run m (Some r)
  run_of_ones r l taken e = (
    let b = ones-le 256 m l in omega arith,
    power_wrapped (2 ^ 256) m l refl (sym common ∙ eqb-true both 0 (sym et ∙ taken)) ∙ ap (λ (n : ℕ). 2 ^ n) (sym e),
  )

  pub no_run : test ≡ false → Run m None
  no_run left k h f = eqb-false both 0 (sym et ∙ left) (common ∙ power_apart m k h f)
