-- Powers of two as words, and 2^shift as SHL of 1.
use Rattle.std.proofs.Common.{◌≡◌, ℕ, ◌+◌, ◌-◌, ◌*◌, ◌%◌, ◌^◌, ◌<◌, ◌≤◌, sym, ap, ◌∙◌, mod-eq_of_lt, one-mul, arith, pow-add, le-ltb, lt-ltb}
use native.Mathlib.Nat.{mul-mod_left}
use native.Mathlib.Decide.{dec_lt}
use lib.Pow.{pow-lt}
use Rattle.word.specs.Arithmetic.{power_of}

-- a shift below the width loses nothing
pub shifted_one : (w t : ℕ) → t < w → (1 * 2 ^ t) % 2 ^ w ≡ 2 ^ t
shifted_one w t h = ap (λ (n : ℕ). n % 2 ^ w) (one-mul (2 ^ t)) ∙ mod-eq_of_lt (pow-lt h)

-- the limb that has the weight 2^k holds the power 2^(t + k) as 2^t
pub limb_power : (t k s : ℕ) → t < 64 → t + k ≡ s → (1 * 2 ^ t) % 2 ^ 64 * 2 ^ k ≡ 2 ^ s
limb_power t k s h e = ap (λ (n : ℕ). n * 2 ^ k) (shifted_one 64 t h) ∙ sym (pow-add 2 t k) ∙ ap (λ (n : ℕ). 2 ^ n) e

-- below 256 the power itself, from 256 on 0
pub power_within : (s : ℕ) → s < 256 → power_of s ≡ 2 ^ s
unfolding power_of
power_within s h = simp (lt-ltb s 256 h)

pub power_past : (s : ℕ) → 256 ≤ s → power_of s ≡ 0
unfolding power_of
power_past s h = simp (le-ltb s 256 h)

-- `power_of` is the Yellow Paper's SHL of 1
pub power_is_shl : (s : ℕ) → power_of s ≡ (1 * 2 ^ s) % 2 ^ 256
power_is_shl s = go (dec_lt s 256)
  where
    go : Dec (s < 256) → power_of s ≡ (1 * 2 ^ s) % 2 ^ 256
    go (yes h) = power_within s h ∙ sym (shifted_one 256 s h)
    go (no h) =
        let e : s - 256 + 256 ≡ s = omega arith in
        power_past s (omega arith)
        ∙ sym (ap (λ (n : ℕ). n % 2 ^ 256) (one-mul (2 ^ s) ∙ ap (λ (n : ℕ). 2 ^ n) (sym e) ∙ pow-add 2 (s - 256) 256) ∙ mul-mod_left (2 ^ (s - 256)) (2 ^ 256))
