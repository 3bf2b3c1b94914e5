use Rattle.std.proofs.Common.{arith, ◌*◌}
use Rattle.limits.specs.Limits.{word_bytes}
use Rattle.paths.specs.Lent.{facts_in}
use Rattle.paths.proofs.Spotting.{before_none}
use Rattle.paths.proofs.Lending.{same_stays, same_then}
use Rattle.kinds.proofs.FillLaws.{filling_start, filling_room, filling_next, filling_done}
use Rattle.kinds.proofs.ChainLaws.{made_before}
use Rattle.kinds.proofs.filling.fill.Goals as goal

pub loop-i-init : goal.loop-i-init
loop-i-init c = (filling_start _ _ _, before_none _ _ _ _, same_stays _)

pub get_or_create_after-prev-requires-clause-room : goal.get_or_create_after-prev-requires-clause-room
get_or_create_after-prev-requires-clause-room c =
    let I = c.loop-i.invariant in
    filling_room _ _ _ _ _ _ I.0 _ c.loop-i-test.true (rw I.2.records c.requires.room)

pub loop-i-preserved : goal.loop-i-preserved
loop-i-preserved c =
    let I = c.loop-i.invariant in
    let E = c.get_or_create_after-prev.ensures in (
      filling_next _ _ _ _ _ _ I.0 _ _ c.loop-i-test.true E.state,
      made_before (facts_in c.loop-i.facts) 1 (word_bytes * c.loop-i.i) _ _ _ _ _ (omega arith) (omega arith)
          c.get_or_create_after-prev.new.self.shaped E.state E.number E.range.0 E.range.1,
      same_then _ _ _ I.2 E.same,
    )

pub returns-clause-grows : goal.returns-clause-grows
returns-clause-grows c =
    let I = c.loop-i.invariant in
    let D = filling_done _ _ _ _ _ _ I.0 (omega arith) in
    record { state = D.0; used = rw D.1 (omega arith); same = I.2 }

pub returns-clause-value : goal.returns-clause-value
returns-clause-value c = (filling_done _ _ _ _ _ _ c.loop-i.invariant.0 (omega arith)).1
