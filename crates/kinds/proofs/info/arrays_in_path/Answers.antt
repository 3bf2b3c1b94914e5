use Rattle.std.proofs.Common.{sym, ap, ◌∙◌, arith}
use Rattle.paths.specs.Walking.{upward_left}
use Rattle.paths.proofs.Climbing.{upward_in}
use Rattle.kinds.proofs.UpLaws.{counting_start, counting_in, counting_fits, counting_array, counting_other, counting_done}
use Rattle.kinds.proofs.info.arrays_in_path.Goals as goal

pub loop-c-init : goal.loop-c-init
loop-c-init c = counting_start _ _ _ (ap upward_left c.into_iter-c-iterator.ensures.into_iter_gives ∙ c.upward-c-items.ensures)

pub kind-requires : goal.kind-requires
kind-requires c =
    upward_in _ _ _ c.args.facts.now.shaped _ _ c.requires.1 (counting_in _ _ _ _ _ _ c.loop-c.invariant c.in-Some.ensures.steps)

pub overflow_add-arrays : goal.overflow_add-arrays
overflow_add-arrays c =
    let l = counting_fits _ _ _ _ _ _ c.loop-c.invariant c.in-Some.ensures.steps in
    let f = c.ranges.r.fits in
    omega arith

pub loop-c-preserved-then-kind-eq-KIND_ARRAY : goal.loop-c-preserved-then-kind-eq-KIND_ARRAY
loop-c-preserved-then-kind-eq-KIND_ARRAY c =
    counting_array _ _ _ _ _ _ c.loop-c.invariant c.in-Some.ensures.steps (sym c.kind.ensures ∙ c.if-kind-eq-KIND_ARRAY.true)

pub loop-c-preserved : goal.loop-c-preserved
loop-c-preserved c =
    counting_other _ _ _ _ _ _ c.loop-c.invariant c.in-Some.ensures.steps (λ e. c.if-kind-eq-KIND_ARRAY.false (c.kind.ensures ∙ e))

pub returns : goal.returns
returns c = counting_done _ _ _ _ c.loop-c.invariant c.in-None.ensures.steps.0
