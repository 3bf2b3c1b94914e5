use Rattle.std.proofs.Common.{refl, List}
use borrow.Author.Tests.{eq-eqb, ne_eqb}
use Rattle.facts.specs.State.{Node}
use Rattle.paths.proofs.Lending.{stays, becomes_then}
use Rattle.kinds.specs.Kinds.{dynamic_at, set_dynamic}
use Rattle.kinds.proofs.info.set_dynamic.Goals as goal

pub returns-then-r-eq1 : goal.returns-then-r-eq1
unfolding set_dynamic
returns-then-r-eq1 c = rw (eq-eqb c.args.r 1 c.if-r-eq1.true) (stays _ _ refl)

pub returns : goal.returns
unfolding set_dynamic
returns c =
    rw (ne_eqb c.args.r 1 c.if-r-eq1.false)
    (becomes_then (λ (s : List Node). dynamic_at s c.args.r c.args.count) _ _ _ _ c.make_seen.ensures c.dynamic_at.ensures)
