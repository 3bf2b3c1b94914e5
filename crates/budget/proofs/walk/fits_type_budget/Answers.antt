use Rattle.std.proofs.Common.{sym, ap, ◌∙◌, arith}
use Rattle.facts.specs.State.{Node}
use Rattle.facts.proofs.States.{sound_formed}
use Rattle.paths.proofs.Frame.{read}
use Rattle.budget.proofs.Answers.{budget_walk, paid_left}
use Rattle.budget.proofs.walk.fits_type_budget.Goals as goal

pub left_below-requires-clause-seen : goal.left_below-requires-clause-seen
left_below-requires-clause-seen c =
    let S = c.requires in
    sym (ap (λ (n : Node). n.seen) (read _ _ 1 (omega arith) S.some)) ∙ S.root.seen

pub returns-clause-budget_value : goal.returns-clause-budget_value
returns-clause-budget_value c =
    paid_left _ _ _ _ c.left_below.result c.left_below.ensures ∙ budget_walk _ (sound_formed _ _ _ c.requires)
