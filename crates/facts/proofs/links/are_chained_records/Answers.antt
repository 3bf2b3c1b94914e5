use native.Mathlib.Omega.{arith}
use Rattle.facts.proofs.Check.{added_start, added_more, chained_child, chained_fits, told}
use Rattle.facts.proofs.links.are_chained_records.Goals as goal

pub returns-in_default : goal.returns-in_default
returns-in_default c S =
    let refused = rw c.field.ensures at c.in_default.ensures in
    refused (chained_child _ _ S.0 1 (omega arith) c.requires.le_used.0)

pub loop-r-init : goal.loop-r-init
loop-r-init c =
    let led = rw c.field.ensures at c.in-Some.ensures in
    added_start _ _ _ c.requires.le_used.0 led.0 led.1 led.2

pub returns-in_default-with_record : goal.returns-in_default-with_record
returns-in_default-with_record c S =
    let low = c.loop-r.invariant.low in
    c.in_default-with_record.ensures (chained_fits _ _ S.0 S.1 c.loop-r.r (omega arith) (omega arith))

pub loop-r-preserved : goal.loop-r-preserved
loop-r-preserved c =
    let fits = c.in-Some-with_record.ensures in
    let own = c.weight_of-records.ensures in
    added_more _ _ _ _ _ _ _ c.loop-r.invariant (omega arith) fits.0 fits.1 own.0 own.1

pub returns : goal.returns
returns c =
    let asked = c.requires in
    told _ _ _ _ asked.le_used.0 asked.le_used.1 asked.record_width_in_bounds asked.table_value _ c.loop-r.invariant
    (omega arith)
