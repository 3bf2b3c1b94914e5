-- Bytes stored, one run after another.
use mathlib.Core.Path.{◌≡◌, sym, ap, ◌∙◌}
use mathlib.Core.List.{List, [], ◌∷◌, ◌++◌, append_assoc}
use Prim.Native.Nat.{ℕ, suc, ◌+◌, ◌-◌, ◌≤◌}
use native.Mathlib.Nat.{add-zero}
use native.Mathlib.Omega.{arith}
use lib.ListN.{length, take, drop, set, length-append}
use lib.Seq.{sets, sets-eq, drop-drop}
use borrow.Rule.Slice.PartMut.{put_mid}
use Rattle.spell.specs.Stored.{StoredAt}

module _ {A : Type 0} where
  -- a run and then another from where it ends: one run of both
  pub sets_append : (l : List A) (i : ℕ) (xs ys : List A)
      → sets l i (xs ++ ys) ≡ sets (sets l i xs) (i + length xs) ys
  sets_append l i [] ys = ap (λ (k : ℕ). sets l k ys) (sym (add-zero i))
  sets_append l i (x ∷ xs) ys =
      let e : suc i + length xs ≡ i + suc (length xs) = omega arith in
      sets_append (set l i x) (suc i) xs ys ∙ ap (λ (k : ℕ). sets (sets (set l i x) (suc i) xs) k ys) e

  -- the same, where equations say what the runs leave and where the second begins
  pub sets_both : (l m n : List A) (i j : ℕ) (xs ys : List A) → m ≡ sets l i xs → j ≡ i + length xs → n ≡ sets m j ys
      → n ≡ sets l i (xs ++ ys)
  sets_both l m n i j xs ys em ej en = en ∙ (λ k. sets (em k) (ej k) ys) ∙ sym (sets_append l i xs ys)

-- with the index behind them
pub stored_both : (l m n : List ℕ) (i j r : ℕ) (xs ys : List ℕ) → StoredAt xs l i j m → StoredAt ys m j r n
    → StoredAt (xs ++ ys) l i r n
stored_both l m n i j r xs ys s t =
    (sets_both l m n i j xs ys s.0 s.1 t.0, omega (arith, s.1, t.1, length-append xs ys))

-- bytes copied into a slice from a to n are stored from a on
pub stored_mid : (xs t : List ℕ) (a n : ℕ) → n ≡ a + length t → n ≤ length xs → put_mid a (n - a) xs t ≡ sets xs a t
stored_mid xs t a n e h =
    let k : n - a ≡ length t = omega arith in
    ap (λ (j : ℕ). take a xs ++ (t ++ drop j (drop a xs))) k
    ∙ ap (λ (l : List ℕ). take a xs ++ (t ++ l)) (drop-drop (length t) a xs)
    ∙ sym (append_assoc (take a xs) t (drop (a + length t) xs))
    ∙ sym (sets-eq t xs a (omega arith))

-- two runs of bytes, as a proof of several calls puts them together
pub run_more : (l : List ℕ) (i j : ℕ) (xs ys : List ℕ) → j ≡ i + length xs
    → sets l i (xs ++ ys) ≡ sets (sets l i xs) j ys
run_more l i j xs ys e = sets_append l i xs ys ∙ ap (λ (k : ℕ). sets (sets l i xs) k ys) (sym e)

pub run_length : (xs ys : List ℕ) → length (xs ++ ys) ≡ length xs + length ys
run_length xs ys = length-append xs ys

pub ruleset runs = (run_more, run_length)
