-- `one_outcome`: the bytes of a group have one outcome for one input: what is said of them, the head and the table.
use Prim.Native.Nat.{ℕ}
use mathlib.Core.Path.{◌≡◌, sym, ap, ◌∙◌}
use mathlib.Core.List.{List}
use Rattle.head.specs.Held.{Held}
use Rattle.step.specs.Call.{Lent, lend}
use Rattle.step.proofs.Outcomes.{one_outcome as one-step}
use Rattle.groups.specs.Group.{step_in, stack_in, memory_in}
use Rattle.groups.specs.Call.{Verdict, answered, Put, Outcome, not_group, step}

module _ (h : Held) (code bs : List ℕ) where
  put_once : (n n' : ℕ) (h₁ h₂ : Held) → Put h code bs n h₁ → Put h code bs n' h₂ → (n ≡ n') × (h₁ ≡ h₂)
  put_once n n' h₁ h₂ p q =
      let same = one-step (lend h (stack_in bs) (memory_in bs)) code (step_in bs) n n' _ _ p.outcome q.outcome in
      (same.0, ap (λ (l : Lent). l.held) same.1)

  pub one_outcome : (v v' : Verdict) (h₁ h₂ : Held) → Outcome h code bs v h₁ → Outcome h code bs v' h₂ → (v ≡ v') × (h₁ ≡ h₂)
  one_outcome v v' h₁ h₂ (not_group f e q) (not_group g d p) = (e ∙ sym d, q ∙ sym p)
  one_outcome v v' h₁ h₂ (not_group f e q) (step g n d p) = absurd (f g)
  one_outcome v v' h₁ h₂ (step f n e q) (not_group g d p) = absurd (g f)
  one_outcome v v' h₁ h₂ (step f n e q) (step g m d p) =
      let same = put_once n m h₁ h₂ q p in
      (e ∙ ap answered same.0 ∙ sym d, same.1)
