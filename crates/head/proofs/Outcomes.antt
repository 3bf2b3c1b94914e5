-- A fresh call has one outcome.
use Prim.Native.Nat.{ℕ}
use mathlib.Core.Path.{◌≡◌, sym, ap, ◌∙◌}
use mathlib.Core.Bool.{cond}
use lib.Dec.{eqb}
use Rattle.limits.specs.Refusal.{taken}
use Rattle.head.specs.Held.{Held, records_in}
use Rattle.head.proofs.Asking.{one_no}
use Rattle.head.specs.Fresh.{questions, opened, Outcome}

-- a fresh call has one outcome for one input: number, record count, head and table
pub one_outcome : (h : Held) (n m a b : ℕ) (h₁ h₂ : Held) → Outcome h n a h₁ → Outcome h m b h₂
    → (n ≡ m) × (a ≡ b) × (h₁ ≡ h₂)
one_outcome h n m a b h₁ h₂ O P =
    let e = one_no (questions h) n m O.asked P.asked in (
      e,
      O.counts ∙ ap (λ (k : ℕ). cond (eqb k taken) (records_in h) 0) e ∙ sym P.counts,
      O.leaves ∙ ap (λ (k : ℕ). cond (eqb k taken) (opened (records_in h)) h) e ∙ sym P.leaves,
    )
