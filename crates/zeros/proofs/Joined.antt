-- Numbers joined by OR: zero just where each of them is.
use Rattle.std.proofs.Common.{◌≡◌, ℕ, zero, suc, ◌+◌, ◌-◌, ◌≤◌, ◌<◌, Bool, ◌&&◌, List, length, take, drop, get_or, eqb, bit_or, refl, sym, ap, ◌∙◌, add-one, arith, ne_eqb, fold, length-drop}
use mathlib.Core.Bool.{and-false}
use native.Mathlib.Decide.{ℕ_discrete}
use Rattle.std.proofs.lemmas.Nat.{le_or_l, le_or_r}
use Rattle.std.proofs.lemmas.List.{get_or-drop}
use Rattle.std.proofs.lemmas.List.Sums.{fold_more}
use Rattle.zeros.specs.Zeros.{all_to, zeros}

-- an OR is zero just where both sides are, for neither is above it
or_zero : (a b : ℕ) → eqb (bit_or a b) 0 ≡ (eqb a 0 && eqb b 0)
or_zero a b = go (ℕ_discrete a 0) (ℕ_discrete b 0)
  where
    go : Dec (a ≡ 0) → Dec (b ≡ 0) → eqb (bit_or a b) 0 ≡ (eqb a 0 && eqb b 0)
    go (yes p) (yes q) = rw (p, q) refl
    go (yes p) (no n) =
        ne_eqb (bit_or a b) 0 (λ z. n (omega (arith, le_or_r a b))) ∙ sym (ap (λ (x : Bool). eqb a 0 && x) (ne_eqb b 0 n) ∙ and-false (eqb a 0))
    go (no n) _ = ne_eqb (bit_or a b) 0 (λ z. n (omega (arith, le_or_l a b))) ∙ sym (ap (λ (x : Bool). x && eqb b 0) (ne_eqb a 0 n))

-- n numbers of s from `at` on, joined
joined_zeros : (s : List ℕ) (at n : ℕ) → at + n ≤ length s → eqb (fold bit_or 0 (take n (drop at s))) 0 ≡ zeros s at n
unfolding all_to
joined_zeros s at zero h = refl
joined_zeros s at (suc n) h =
    let l : n < length (drop at s) = omega (arith, length-drop at s) in
    rw (← add-one n)
    (ap (λ (x : ℕ). eqb x 0) (fold_more bit_or 0 (drop at s) n 0 l)
    ∙ or_zero (fold bit_or 0 (take n (drop at s))) (get_or (drop at s) n 0)
    ∙ ap (λ (x : Bool). x && eqb (get_or (drop at s) n 0) 0) (joined_zeros s at n (omega arith))
    ∙ ap (λ (x : ℕ). zeros s at n && eqb x 0) (get_or-drop at s n 0))

-- the same of a range of s, whose numbers joined are r
pub range_zeros : (s : List ℕ) (at n r : ℕ) → at + n ≤ length s → r ≡ fold bit_or 0 (take (at + n - at) (drop at s)) → eqb r 0 ≡ zeros s at n
range_zeros s at n r h e =
    let k : at + n - at ≡ n = omega arith in
    ap (λ (x : ℕ). eqb x 0) (e ∙ ap (λ (m : ℕ). fold bit_or 0 (take m (drop at s))) k) ∙ joined_zeros s at n h
