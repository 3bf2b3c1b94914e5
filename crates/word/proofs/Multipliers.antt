-- What `multiplier_of` says of a multiplier, both ways, so that no caller opens it.
use Rattle.std.proofs.Common.{◌≡◌, ℕ, ◌*◌, ◌/◌, ◌%◌, ◌≤◌, Bool, true, false, cond, ◌&&◌, eqb, leb, sym, refl, ◌∙◌, subst, arith, eq-eqb, eqb-true, le-leb, leb-true}
use mathlib.Core.Bool.{false≢true}
use borrow.Author.Tests.{eqb-false}
use Rattle.word.specs.Multiplier.{is_array_mark, multiplier_of}
use Rattle.word.specs.declared.Multiplier.{Multiplier}
use Rattle.word.specs.declared.Multiplier.TheVariants.{One, Two, Array, Other}
use Rattle.word.proofs.Comparisons.{both_true}

-- m counts k words, and k is from 1 to 99
abbrev pub Counts : ℕ → ℕ → Type 0
Counts m k = (m ≡ 32 * k) × (1 ≤ k) × (k ≤ 99)

-- an array mark is 32 times a count of words, and every such number is one
pub mark_counts : (m : ℕ) → is_array_mark m ≡ true → Counts m (m / 32)
unfolding is_array_mark
mark_counts m e =
    let t = both_true (eqb (m % 32) 0) (leb 32 m && leb m 3168) e in
    let u = both_true (leb 32 m) (leb m 3168) t.1 in
    omega (arith, eqb-true (m % 32) 0 t.0, leb-true 32 m u.0, leb-true m 3168 u.1)

pub counts_mark : (m k : ℕ) → Counts m k → is_array_mark m ≡ true
unfolding is_array_mark
counts_mark m k h = simp (eq-eqb (m % 32) 0 (omega arith), le-leb 32 m (omega arith), le-leb m 3168 (omega arith))

-- what a reading says of m
abbrev pub MultiplierSays : ℕ → Multiplier → Type 0
MultiplierSays m One = m ≡ 1
MultiplierSays m Two = m ≡ 2
MultiplierSays m (Array k) = Counts m k
MultiplierSays m Other = (m ≡ 1 → ⊥) × (m ≡ 2 → ⊥) × ((k : ℕ) → Counts m k → ⊥)

-- the reading that `multiplier_of` gives says the truth
pub multiplier_is : (m : ℕ) (r : Multiplier) → multiplier_of m ≡ r → MultiplierSays m r
unfolding multiplier_of
multiplier_is m r e = subst (MultiplierSays m) e (one (eqb m 1) refl)
  where
    mark : (m ≡ 1 → ⊥) → (m ≡ 2 → ⊥) → (t : Bool) → is_array_mark m ≡ t → MultiplierSays m (cond t (Array (m / 32)) Other)
    mark n1 n2 true f = mark_counts m f
    mark n1 n2 false f = (n1, n2, λ k h. false≢true (sym f ∙ counts_mark m k h))

    two : (m ≡ 1 → ⊥) → (t : Bool) → eqb m 2 ≡ t → MultiplierSays m (cond t Two (cond (is_array_mark m) (Array (m / 32)) Other))
    two n1 true f = eqb-true m 2 f
    two n1 false f = mark n1 (eqb-false m 2 f) (is_array_mark m) refl

    one : (t : Bool) → eqb m 1 ≡ t → MultiplierSays m (cond t One (cond (eqb m 2) Two (cond (is_array_mark m) (Array (m / 32)) Other)))
    one true f = eqb-true m 1 f
    one false f = two (eqb-false m 1 f) (eqb m 2) refl

-- an array mark of k words is 32 k, with k from 1 to 99
pub array_is : (m k : ℕ) → multiplier_of m ≡ Array k → (m ≡ 32 * k) × (1 ≤ k) × (k ≤ 99)
array_is m k = multiplier_is m (Array k)
