-- The public call, answer by answer, and that it has no other outcome.
use mathlib.Core.Path.{◌≡◌, refl, sym, ap, ◌∙◌, subst}
use mathlib.Core.List.{List, [], ◌++◌}
use Prim.Native.Nat.{ℕ, ◌+◌, ◌≤◌, ◌<◌}
use native.Mathlib.Omega.{arith}
use lib.ListN.{length, drop}
use lib.Seq.{sets, sets-eq}
use Rattle.types.specs.Tree.{AbiTypes}
use Rattle.types.specs.Codes.{Spells, Passes}
use Rattle.types.specs.Text.{list_text}
use Rattle.types.proofs.Unique.{only_types}
use Rattle.std.specs.Prelude.{Option, Some}
use Rattle.text.specs.Weight.{MeasuredBy}
use Rattle.text.specs.Machine.{emit}
use Rattle.text.specs.Call.{over, Outcome, written, no_types, too_long}
use Rattle.text.proofs.Emitted.{emit_is_text}

-- a run of stores from the start on leaves the run, and what stood behind it
sets_over : (t out : List ℕ) → length t ≤ length out → sets out 0 t ≡ over t out
sets_over t out h =
    let z : 0 + length t ≡ length t = omega arith in
    sets-eq t out 0 (omega arith) ∙ ap (λ (n : ℕ). t ++ drop n out) z

-- what the codes of types write is their text
spelt_text : (ts : AbiTypes) (cs : List ℕ) → Spells ts cs → emit [] cs ≡ list_text ts
spelt_text ts cs s = ap (emit []) (sym s.spelt) ∙ emit_is_text ts s.formed

module _ (cs out : List ℕ) (m : Option ℕ) (measured : MeasuredBy cs m) where
  module _ (most : length cs ≤ 8192) (n : ℕ) (e : m ≡ Some n) where
    found : MeasuredBy cs (Some n)
    found = subst (MeasuredBy cs) e measured

    passes : Passes found.0 cs
    passes = record { spells = found.1; most = most }

    pub no_room : length out < n → Outcome cs out 11 0 out
    no_room h = too_long found.0 passes (omega (arith, found.2)) refl refl refl

    pub text_fits : n ≤ length out → length (emit [] cs) ≤ length out
    text_fits h = omega (arith, found.2, ap length (spelt_text found.0 cs found.1))

    pub all_written : n ≤ length out → (out' : List ℕ) → out' ≡ sets out 0 (emit [] cs) → Outcome cs out 0 n out'
    all_written h out' eo =
        let t = spelt_text found.0 cs found.1 in
        let fits : length (list_text found.0) ≤ length out = omega (arith, found.2) in
        written found.0 passes fits refl found.2
        (eo ∙ ap (sets out 0) t ∙ sets_over (list_text found.0) out fits)

-- the types of a list that passes are its only ones
same_types : (cs : List ℕ) (ts us : AbiTypes) → Passes ts cs → Passes us cs → ts ≡ us
same_types cs ts us p q = only_types ts us cs p.spells q.spells

-- ONE OUTCOME FOR ONE INPUT: the number, the length and the slice are the only ones
pub one_outcome : (cs out : List ℕ) (j k m n : ℕ) (o₁ o₂ : List ℕ) → Outcome cs out j m o₁ → Outcome cs out k n o₂
    → (j ≡ k) × (m ≡ n) × (o₁ ≡ o₂)
one_outcome cs out j k m n o₁ o₂ (written ts p f ej em eo) (written us q g ek en fo) =
    let e = same_types cs ts us p q in
    let long = ap (λ (vs : AbiTypes). length (list_text vs)) e in
    let slice = ap (λ (vs : AbiTypes). over (list_text vs) out) e in
    (ej ∙ sym ek, em ∙ long ∙ sym en, eo ∙ slice ∙ sym fo)
one_outcome cs out j k m n o₁ o₂ (written ts p f ej em eo) (no_types never ek en fo) = absurd (never ts p)
one_outcome cs out j k m n o₁ o₂ (written ts p f ej em eo) (too_long us q g ek en fo) =
    absurd (omega (arith, ap (λ (vs : AbiTypes). length (list_text vs)) (same_types cs ts us p q)))
one_outcome cs out j k m n o₁ o₂ (no_types never ej em eo) (written us q g ek en fo) = absurd (never us q)
one_outcome cs out j k m n o₁ o₂ (no_types never ej em eo) (no_types neither ek en fo) =
    (ej ∙ sym ek, em ∙ sym en, eo ∙ sym fo)
one_outcome cs out j k m n o₁ o₂ (no_types never ej em eo) (too_long us q g ek en fo) = absurd (never us q)
one_outcome cs out j k m n o₁ o₂ (too_long ts p f ej em eo) (written us q g ek en fo) =
    absurd (omega (arith, ap (λ (vs : AbiTypes). length (list_text vs)) (same_types cs ts us p q)))
one_outcome cs out j k m n o₁ o₂ (too_long ts p f ej em eo) (no_types never ek en fo) = absurd (never ts p)
one_outcome cs out j k m n o₁ o₂ (too_long ts p f ej em eo) (too_long us q g ek en fo) =
    (ej ∙ sym ek, em ∙ sym en, eo ∙ sym fo)
