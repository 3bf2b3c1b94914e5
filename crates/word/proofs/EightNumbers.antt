-- Array as eight u32 numbers of a list, highest first: what is read, what is written, and that each undoes the other.
use Rattle.std.proofs.Common.{◌≡◌, ℕ, suc, ◌+◌, ◌*◌, ◌/◌, ◌%◌, ◌^◌, ◌<◌, ◌≤◌, List, ◌++◌, length, get_or, take, drop, sym, refl, ap, ◌∙◌, add-zero, add_assoc, mul_assoc, add-mul, zero-add, zero-mul, add-one, arith, length-append, length-take-le, get_or-append-add}
use native.Mathlib.Numerals.{towards_suc}
use lib.Arith.{digits_div, digits_mod}
use lib.ListN.{get_or-append}
use lib.Seq.{sets, sets-eq, set-get_or}
use Rattle.word.specs.Value.{value, value_of}
use Rattle.word.specs.Numbers.{digits_at, word_at, limb_at, limbs_at, limb_numbers, numbers_of}
use Rattle.word.specs.declared.U256.{U256}

-- two numbers more below n numbers are a limb more
limb_step : (s : List ℕ) (at n : ℕ) → digits_at s at n * 2 ^ 64 + limb_at s (at + n) ≡ digits_at s at (suc (suc n))
unfolding digits_at
limb_step s at n = pair (2 ^ 32) (digits_at s at n) _ _ ∙ ap (λ (i : ℕ). digits_at s at (suc n) * 2 ^ 32 + get_or s i 0) (add_assoc at n 1 ∙ ap (λ (i : ℕ). at + i) (add-one n))
  where
    pair : (B A h l : ℕ) → A * (B * B) + (h * B + l) ≡ (A * B + h) * B + l
    pair B A h l = simp (add-mul, mul_assoc, add_assoc)

-- the limbs at an index have the value of its eight numbers
pub limbs_value : (s : List ℕ) (at : ℕ) → value_of (limbs_at s at) ≡ word_at s at
unfolding digits_at
limbs_value s at =
    let two : limb_at s at ≡ digits_at s at 2 = simp (zero-mul, zero-add, add-zero) in
    let four = ap (λ (n : ℕ). n * 2 ^ 64 + limb_at s (at + 2)) two ∙ limb_step s at 2 in
    let six = ap (λ (n : ℕ). n * 2 ^ 64 + limb_at s (at + 4)) four ∙ limb_step s at 4 in
    ap (λ (n : ℕ). n * 2 ^ 64 + limb_at s (at + 6)) six ∙ limb_step s at 6

-- a word whose limbs were read number by number
module _ (s : List ℕ) (at l3 l2 l1 l0 : ℕ) (e3 : l3 ≡ get_or s at 0 * 2 ^ 32 + get_or s (at + 1) 0) (e2 : l2 ≡ get_or s (at + 2) 0 * 2 ^ 32 + get_or s (at + 3) 0)
    (e1 : l1 ≡ get_or s (at + 4) 0 * 2 ^ 32 + get_or s (at + 5) 0) (e0 : l0 ≡ get_or s (at + 6) 0 * 2 ^ 32 + get_or s (at + 7) 0) where
  pub read_limbs : ◌≡◌ {A = U256} (record { l3 = l3; l2 = l2; l1 = l1; l0 = l0 }) (limbs_at s at)
  read_limbs = simp (e3, e2, e1, e0, add_assoc)

  pub read_value : value l3 l2 l1 l0 ≡ word_at s at
  read_value = ap value_of read_limbs ∙ limbs_value s at

-- four limbs stored one after the other are the word's eight numbers
pub write_is : (s s1 s2 s3 s4 : List ℕ) (at : ℕ) (x : U256) →
    s1 ≡ sets s at (limb_numbers x.l3) → s2 ≡ sets s1 (at + 2) (limb_numbers x.l2) →
    s3 ≡ sets s2 (at + 4) (limb_numbers x.l1) → s4 ≡ sets s3 (at + 6) (limb_numbers x.l0) → s4 ≡ sets s at (numbers_of x)
write_is s s1 s2 s3 s4 at x e1 e2 e3 e4 = simp (e4, e3, e2, e1, towards_suc)

-- a number of those that were stored
pub get_d_sets : (s vs : List ℕ) (at i : ℕ) → at + length vs ≤ length s → i < length vs → get_or (sets s at vs) (at + i) 0 ≡ get_or vs i 0
get_d_sets s vs at i h l =
    let front : length (take at s) ≡ at = length-take-le at s (omega arith) in
    ap (λ (r : List ℕ). get_or r (at + i) 0) (sets-eq vs s at h)
    ∙ get_or-append (take at s ++ vs) (drop (at + length vs) s) 0 (at + i) (omega (arith, length-append (take at s) vs))
    ∙ ap (λ (n : ℕ). get_or (take at s ++ vs) (n + i) 0) (sym front)
    ∙ get_or-append-add (take at s) vs i 0

-- a word that is written is read again
pub read_written : (s : List ℕ) (at : ℕ) (x : U256) → at + 8 ≤ length s → limbs_at (sets s at (numbers_of x)) at ≡ x
read_written s at x h j = record {
  l3 = limb 0 at x.l3 (omega arith) (add-zero at) refl refl j;
  l2 = limb 2 (at + 2) x.l2 (omega arith) refl refl refl j;
  l1 = limb 4 (at + 4) x.l1 (omega arith) refl refl refl j;
  l0 = limb 6 (at + 6) x.l0 (omega arith) refl refl refl j;
}
  where
    limb : (k i y : ℕ) → k ≤ 6 → at + k ≡ i → get_or (numbers_of x) k 0 ≡ y / 2 ^ 32 → get_or (numbers_of x) (suc k) 0 ≡ y % 2 ^ 32 → limb_at (sets s at (numbers_of x)) i ≡ y
    limb k i y l q e f =
        let stored = get_d_sets s (numbers_of x) at in
        let next : at + suc k ≡ i + 1 = omega arith in
        rw (← next, ← q) (omega (arith, stored k h (omega arith), stored (suc k) h (omega arith)))

-- a word that is read and written back changes nothing
pub written_read : (s : List ℕ) (at : ℕ) → ((i : ℕ) → get_or s i 0 < 2 ^ 32) → sets s at (numbers_of (limbs_at s at)) ≡ s
written_read s at small = sym (write_is s s s s s at (limbs_at s at) (back at) (back (at + 2)) (back (at + 4)) (back (at + 6)))
  where
    back : (i : ℕ) → s ≡ sets s i (limb_numbers (limb_at s i))
    back i = simp (add-one, digits_div (get_or s i 0) (small (suc i)), digits_mod (get_or s i 0) (small (suc i)), set-get_or)
