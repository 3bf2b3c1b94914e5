-- The calls in numbers have one outcome for one input: their numbers, the head and the lent slices.
use Prim.Native.Nat.{ℕ}
use mathlib.Core.Path.{◌≡◌, sym, ap, ◌∙◌}
use mathlib.Core.Bool.{cond}
use mathlib.Core.List.{List}
use lib.Dec.{eqb}
use Rattle.limits.specs.Refusal.{taken}
use Rattle.head.specs.Held.{Held}
use Rattle.head.proofs.Outcomes as fresh-outcomes
use Rattle.closing.specs.Words.{Handed}
use Rattle.closing.proofs.Outcomes as closing-outcomes
use Rattle.closing.specs.Answer.{Verdict, number_of}
use Rattle.text.proofs.Calls as text-outcomes
use Rattle.argcol.specs.declared.Values.{Values}
use Rattle.argcol.specs.Numbers.{values_after, FreshOutcome, ClosingOutcome, TextOutcome}

pub one_fresh : (h : Held) (n m : ℕ) (h₁ h₂ : Held) → FreshOutcome h n h₁ → FreshOutcome h m h₂ → (n ≡ m) × (h₁ ≡ h₂)
one_fresh h n m h₁ h₂ O P =
    let same = fresh-outcomes.one_outcome h n m O.count P.count h₁ h₂ O.outcome P.outcome in
    (same.0, same.2)

pub one_closing : (t : Held) (types : List ℕ) (h : Handed) (v : Values) (n m : ℕ) (t₁ t₂ : Held) (c₁ c₂ : List ℕ)
    (v₁ v₂ : Values) → ClosingOutcome t types h v n t₁ c₁ v₁ → ClosingOutcome t types h v m t₂ c₂ v₂
    → (n ≡ m) × (t₁ ≡ t₂) × (c₁ ≡ c₂) × (v₁ ≡ v₂)
one_closing t types h v n m t₁ t₂ c₁ c₂ v₁ v₂ O P =
    let same =
    closing-outcomes.one_outcome t types h O.verdict P.verdict t₁ t₂ c₁ c₂ O.outcome P.outcome in (
      O.says ∙ ap number_of same.0 ∙ sym P.says,
      same.1,
      same.2,
      O.leaves ∙ ap (λ (w : Verdict). values_after w v) same.0 ∙ sym P.leaves,
    )

pub one_text : (cs out : List ℕ) (length n m : ℕ) (o₁ o₂ : List ℕ) (l₁ l₂ : ℕ) → TextOutcome cs out length n o₁ l₁
    → TextOutcome cs out length m o₂ l₂ → (n ≡ m) × (o₁ ≡ o₂) × (l₁ ≡ l₂)
one_text cs out length n m o₁ o₂ l₁ l₂ O P =
    let same = text-outcomes.one_outcome cs out n m O.written P.written o₁ o₂ O.outcome P.outcome in (
      same.0,
      same.2,
      O.leaves ∙ (λ i. cond (eqb (same.0 i) taken) (same.1 i) length) ∙ sym P.leaves,
    )
