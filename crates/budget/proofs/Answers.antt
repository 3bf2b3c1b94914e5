-- What the walk from the root leaves of 8,192 is the answer.
use Prim.Native.Nat.{ℕ}
use mathlib.Core.Path.{◌≡◌, sym}
use mathlib.Core.List.{List}
use Rattle.limits.specs.Limits.{budget_max}
use Rattle.facts.specs.State.{Node}
use Rattle.facts.specs.Formed.{Formed}
use Rattle.paths.proofs.Sounds.{formed_ordered, formed_under}
use Rattle.std.specs.Prelude.{Some, None}
use Rattle.std.specs.declared.option.Option.{Option}
use Rattle.budget.specs.declared.Below.{Below}
use Rattle.budget.specs.Answer.{left_of, budget_of}
use Rattle.budget.specs.Below.{leaves, budget_below, Paid}
use Rattle.budget.proofs.Spends.{spend_walk}
use Rattle.budget.proofs.Shallows.{shallow_walk}

pub budget_walk : (s : List Node) → Formed s → budget_below s 1 0 budget_max ≡ budget_of s
unfolding budget_below budget_of leaves
budget_walk s F =
    λ i. leaves (shallow_walk s (formed_ordered s F) (formed_under s F) i) (spend_walk s (formed_ordered s F) (formed_under s F) i) budget_max

-- what the walk answers, its last word apart
pub paid_left : (s : List Node) (r depth left : ℕ) (b : Option Below) → Paid s r depth left b → left_of b ≡ budget_below s r depth left
paid_left s r depth left (Some below) P = sym P.0
paid_left s r depth left None P = sym P
