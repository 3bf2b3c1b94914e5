-- `one_outcome`: the step call has one outcome for one input: its number, its head and the lent tables.
use Prim.Native.Nat.{ℕ}
use mathlib.Core.Path.{◌≡◌, sym, ap, ◌∙◌}
use mathlib.Core.Bool.{cond}
use mathlib.Core.List.{List}
use lib.Dec.{eqb}
use Rattle.limits.specs.Refusal.{taken}
use Rattle.head.proofs.Asking.{one_no}
use Rattle.step.specs.Call.{Lent, effect, questions, Outcome}

pub one_outcome : (l : Lent) (bytes x : List ℕ) (n n' : ℕ) (l₁ l₂ : Lent) → Outcome l bytes x n l₁
    → Outcome l bytes x n' l₂ → (n ≡ n') × (l₁ ≡ l₂)
one_outcome l bytes x n n' l₁ l₂ O P =
    let e = one_no (questions l bytes x) n n' O.asked P.asked in
    (e, O.leaves ∙ ap (λ (k : ℕ). cond (eqb k taken) (effect l bytes x) l) e ∙ sym P.leaves)
