use Rattle.std.proofs.Common.{arith, sym, ap, ◌∙◌}
use Rattle.paths.specs.Walking.{chain_left}
use Rattle.paths.proofs.Chaining.{left_kid}
use Rattle.closing.proofs.WordLaws.{seeking_start, seeking_kid, seeking_second, seeking_first, seeking_next, seeking_done}
use Rattle.closing.proofs.words.dynamic_args.Goals as goal

pub loop-child-init : goal.loop-child-init
loop-child-init c = seeking_start _ _ (ap chain_left c.into_iter-child-iterator.ensures.into_iter_gives ∙ c.children-child-items.ensures)

pub has_dynamic-requires : goal.has_dynamic-requires
has_dynamic-requires c =
    let K = left_kid _ _ _ _ (seeking_kid _ _ _ _ _ c.loop-child.invariant c.in-Some.ensures.steps) in
    (let a = K.above in omega arith, K.used)

pub returns-in_default : goal.returns-in_default
returns-in_default c =
    seeking_second _ _ _ _ _ c.loop-child.invariant c.in-Some.ensures.steps (sym c.has_dynamic.ensures ∙ c.if-has_dynamic.true)
    c.in_default.not-Nothing

pub loop-child-preserved-then-has_dynamic : goal.loop-child-preserved-then-has_dynamic
loop-child-preserved-then-has_dynamic c =
    seeking_first _ _ _ _ _ c.loop-child.invariant c.in-Some.ensures.steps (sym c.has_dynamic.ensures ∙ c.if-has_dynamic.true) c.in-Nothing.is

pub loop-child-preserved : goal.loop-child-preserved
loop-child-preserved c =
    seeking_next _ _ _ _ _ c.loop-child.invariant c.in-Some.ensures.steps (sym c.has_dynamic.ensures ∙ c.if-has_dynamic.false)

pub returns : goal.returns
returns c = seeking_done _ _ _ c.loop-child.invariant c.in-None.ensures.steps.0
