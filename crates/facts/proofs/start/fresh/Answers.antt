use mathlib.Core.Path.{sym, ◌∙◌}
use Rattle.facts.proofs.Counts.{answer_is, count_counted}
use Rattle.facts.proofs.Lone.{fresh_is}
use Rattle.facts.proofs.start.fresh.Goals as goal

pub returns-clause-table_after : goal.returns-clause-table_after
returns-clause-table_after c =
    fresh_is _ _ _ _ (count_counted _ _ (sym (answer_is _ _ c.record_count.ensures) ∙ c.in_ok-n.was))
    (c.fill.ensures.after (λ y same. same)) c.set_field.ensures
