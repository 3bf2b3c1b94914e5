use Rattle.std.proofs.Common.{refl, ◌∙◌}
use Rattle.paths.proofs.Seens.{climb_start, climb_next, climb_done}
use Rattle.paths.proofs.lent.FactsMut.make_seen.Goals as goal

pub loop-c-init : goal.loop-c-init
loop-c-init c =
    (climb_start _ _ _ _ c.args.self.now.shaped c.requires.1, refl, record { records = refl; reference = refl })

pub loop-c-preserved : goal.loop-c-preserved
loop-c-preserved c =
    let I = c.loop-c.invariant in
    let E = c.store.ensures in (
      rw (E.used, E.same.records) (climb_next _ _ _ _ _ _ _ _ I.0 c.loop-c-test.true (rw c.read.ensures.0 at c.field-up.ensures)
          (record { shaped = rw (E.used, E.same.records) at c.store.new.self.shaped; state = rw E.used at E.state })),
      E.used ∙ I.1,
      record { records = E.same.records ∙ I.2.records; reference = E.same.reference ∙ I.2.reference },
    )

pub returns : goal.returns
returns c =
    let I = c.loop-c.invariant in
    record { state = (climb_done _ _ _ _ _ _ I.0 c.loop-c-test.false).state; used = I.1; same = I.2 }
