use Rattle.std.proofs.Common.{sym, ap, ◌∙◌, arith, eqb-true}
use borrow.Author.Tests.{eqb-false}
use Rattle.paths.specs.Walking.{chain_left}
use Rattle.paths.proofs.Chaining.{left_kid}
use Rattle.list.proofs.ChildrenLaws.{unmet_start, unmet_kid, unmet_met, unmet_next, unmet_done}
use Rattle.list.proofs.seen.is_childless.Goals as goal

pub loop-child-init : goal.loop-child-init
loop-child-init c = unmet_start _ _ _ (ap chain_left c.into_iter-child-iterator.ensures.into_iter_gives ∙ c.children-child-items.ensures)

pub is_seen-requires : goal.is_seen-requires
is_seen-requires c =
    let K = left_kid _ _ _ _ (unmet_kid _ _ _ _ _ c.loop-child.invariant c.in-Some.ensures.steps) in
    (let a = K.above in omega arith, K.used)

pub returns-then-is_seen : goal.returns-then-is_seen
returns-then-is_seen c =
    unmet_met _ _ _ _ _ c.loop-child.invariant c.in-Some.ensures.steps (eqb-true _ _ (sym c.is_seen.ensures ∙ c.if-is_seen.true))

pub loop-child-preserved : goal.loop-child-preserved
loop-child-preserved c =
    unmet_next _ _ _ _ _ c.loop-child.invariant c.in-Some.ensures.steps (eqb-false _ _ (sym c.is_seen.ensures ∙ c.if-is_seen.false))

pub returns : goal.returns
returns c = unmet_done _ _ _ c.loop-child.invariant c.in-None.ensures.steps.0
