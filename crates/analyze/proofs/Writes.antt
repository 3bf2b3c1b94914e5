-- What a step writes: to the stack only where question 7 asks for a slot, and to the memory at its pick.
use Prim.Native.Nat.{ℕ}
use mathlib.Core.Path.{◌≡◌}
use mathlib.Core.Bool.{Bool}
use mathlib.Core.List.{List}
use mathlib.Core.Logic.{◌⊎◌}
use lib.ListN.{length}
use Rattle.facts.specs.State.{Node}
use Rattle.paths.specs.Order.{Ordered}
use Rattle.labels.specs.declared.Step.{Step}
use Rattle.analyze.specs.declared.OnStack.TheVariants as stack
use Rattle.analyze.specs.Analyze.{plan_of}
use Rattle.analyze.specs.Ready.{StepReaches}
use Rattle.analyze.proofs.Proper.{Picks}
use Rattle.analyze.proofs.Plans.{NeedsSlot, plan_proper}

module _ (s : List Node) (O : Ordered s) (x : Step) (R : StepReaches (length s) x) (active : Bool)
    (bytes : List ℕ) where
  pub plan_stack : ((plan_of s active bytes x).stack ≡ stack.Keep) ⊎ NeedsSlot x.op
  plan_stack = (plan_proper s O x R active bytes).stack

  pub plan_picks : Picks x.pick (plan_of s active bytes x).memory
  plan_picks = (plan_proper s O x R active bytes).memory
