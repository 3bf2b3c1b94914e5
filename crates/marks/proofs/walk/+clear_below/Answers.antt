use Rattle.std.proofs.Common.{◌∙◌, arith}
use Rattle.facts.specs.State.{nodes}
use Rattle.paths.specs.Lent.{facts_in}
use Rattle.marks.specs.Below.{ClearsBelow}
use Rattle.marks.proofs.WalkLaws.{below_so, clearing_less, clearing_next, clearing_done}
use Rattle.marks.proofs.walk.+clear_below.Goals as goal

pub loop-c-smaller : goal.loop-c-smaller
loop-c-smaller t c =
    let I = c.loop-c.invariant in
    let E = c.clear_below.ensures in
    clearing_less _ _ _ _ _ _ I.0 c.requires.0 c.loop-c-test.true _
    (rw (E.used_value ∙ I.1, E.same.records ∙ I.2.records) at c.clear_below.new.facts.shaped)
    (rw (E.used_value, I.1) at E.clears_below) _ (let d = c.drop_range.ensures.used in let p = c.requires.1 in omega arith) (rw c.read-in-loop-c.ensures.0 at c.next-c.ensures)

pub loop-c-preserved : goal.loop-c-preserved
loop-c-preserved t c =
    let I = c.loop-c.invariant in
    let E = c.clear_below.ensures in (
      clearing_next _ _ _ _ _ _ I.0 c.requires.0 c.loop-c-test.true _
          (rw (E.used_value ∙ I.1, E.same.records ∙ I.2.records) at c.clear_below.new.facts.shaped)
          (rw (E.used_value, I.1) at E.clears_below) _ (rw c.read-in-loop-c.ensures.0 at c.next-c.ensures),
      E.used_value ∙ I.1,
      record { records = E.same.records ∙ I.2.records; reference = E.same.reference ∙ I.2.reference },
    )

pub returns-clause-clears_below : goal.returns-clause-clears_below
returns-clause-clears_below t c =
    let I = c.loop-c.invariant in
    let D = c.drop_range.ensures in
    let cleared = clearing_done _ _ _ _ _ _ I.0 c.requires.0 c.args.facts.now.table.now (let p = c.requires.1 in let e = D.used in omega arith) c.loop-c-test.false
    (rw (D.used, D.same.records) c.args.facts.now.shaped)
    (record { shaped = c.drop_range.new.facts.shaped; state = rw D.used (rw D.used at D.state) }) in
    let now : ClearsBelow (facts_in c.args.facts.now) c.args.p (nodes c.loop-c.facts.table.now c.args.facts.now.used) = rw D.used at cleared in
    below_so _ _ _ _ _ (I.1 ∙ D.used) now
