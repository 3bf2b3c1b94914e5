use Rattle.std.proofs.Common.{arith, inl, ap, length}
use Rattle.std.proofs.lemmas.Iterator.Consumers.{YieldsList-from_first, count_from_yields_List}
use Rattle.paths.specs.Walking.{upward_left}
use Rattle.paths.specs.Lent.{facts_of}
use Rattle.paths.specs.Depth.{depth_of}
use Rattle.paths.proofs.Climbing.{ups_length, ups_depth}
use Rattle.paths.proofs.lent.Facts.depth_of.Goals as goal

pub count-requires-clause-fits : goal.count-requires-clause-fits
count-requires-clause-fits c =
    let l = ap length c.upward.ensures in
    let b = ups_length c.args.r (facts_of c.args.self.now) c.args.r in
    let f = c.ranges.r.fits in
    inl (omega arith)

pub overflow_cast-result : goal.overflow_cast-result
overflow_cast-result c =
    let l = ap length c.upward.ensures in
    let b = ups_length c.args.r (facts_of c.args.self.now) c.args.r in
    let f = c.ranges.r.fits in
    omega (arith, c.count.ensures.bound)

pub overflow_sub-result : goal.overflow_sub-result
overflow_sub-result c =
    let n = count_from_yields_List _ _ c.count.ensures.ran (YieldsList-from_first (λ x. x) upward_left _ c.upward.ensures) in
    let l = ups_depth _ _ _ c.args.self.now.shaped c.args.r c.args.r c.requires.0 c.requires.1 (omega arith) in
    omega arith

pub returns : goal.returns
unfolding depth_of
returns c =
    let n = count_from_yields_List _ _ c.count.ensures.ran (YieldsList-from_first (λ x. x) upward_left _ c.upward.ensures) in
    let l = ups_depth _ _ _ c.args.self.now.shaped c.args.r c.args.r c.requires.0 c.requires.1 (omega arith) in
    omega arith
