-- `one_outcome`: the closing has one outcome for one input: its answer, its head and the lent slices.
use Prim.Native.Nat.{ℕ}
use mathlib.Core.Path.{◌≡◌, sym, ap, ◌∙◌}
use mathlib.Core.Bool.{cond}
use mathlib.Core.List.{List}
use lib.Dec.{eqb}
use Rattle.limits.specs.Refusal.{taken}
use Rattle.head.specs.Held.{Held, records_in, holding}
use Rattle.head.proofs.Asking.{one_no}
use Rattle.closing.specs.Words.{Handed}
use Rattle.closing.specs.Answer.{Verdict, types_after}
use Rattle.closing.specs.Call.{questions, state_after, answer_by, Outcome}

pub one_outcome : (t : Held) (types : List ℕ) (h : Handed) (v w : Verdict) (t₁ t₂ : Held) (c₁ c₂ : List ℕ)
    → Outcome t types h v t₁ c₁ → Outcome t types h w t₂ c₂ → (v ≡ w) × (t₁ ≡ t₂) × (c₁ ≡ c₂)
one_outcome t types h v w t₁ t₂ c₁ c₂ O P =
    let s = state_after t h in
    let e = one_no (questions t h types) O.number P.number O.asked P.asked in (
      O.answers ∙ ap (λ (k : ℕ). answer_by k s) e ∙ sym P.answers,
      O.leaves ∙ ap (λ (k : ℕ). cond (eqb k taken) (holding (records_in t) t.head.active s) t) e ∙ sym P.leaves,
      O.writes ∙ ap (λ (k : ℕ). cond (eqb k taken) (types_after s types) types) e ∙ sym P.writes,
    )
