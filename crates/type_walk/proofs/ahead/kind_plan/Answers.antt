use Rattle.std.proofs.Common.{arith}
use Rattle.type_walk.proofs.AheadLaws.{last_most, kind_open}
use Rattle.type_walk.proofs.ahead.kind_plan.Goals as goal

pub tuple_code-requires : goal.tuple_code-requires
tuple_code-requires c =
    let k = c.well_formed.1.1.0.1.1.1.0.1 in
    let l = last_most _ _ _ _ c.requires.sound c.requires.le_r.0 c.requires.le_r.1 _ c.requires.looked k in
    let e = c.last_word-last.ensures in omega arith

pub open_plan-requires : goal.open_plan-requires
open_plan-requires c =
    let k = c.well_formed.1.1.0.1.1.1.0.1 in
    let l = last_most _ _ _ _ c.requires.sound c.requires.le_r.0 c.requires.le_r.1 _ c.requires.looked k in
    let e = c.last_word-last.ensures in omega arith

pub returns : goal.returns
returns c =
    kind_open _ _ _ _ c.requires.sound c.requires.le_r.0 c.requires.le_r.1 _ _ _ _ _ c.requires.looked c.kind-kind.ensures
    c.if-kind-eq-KIND_ARRAY.false c.count.ensures c.last_word-last.ensures c.open_plan.ensures
