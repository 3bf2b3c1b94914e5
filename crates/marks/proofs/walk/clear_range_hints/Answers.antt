use Rattle.marks.proofs.WalkLaws.{root_cleared}
use Rattle.marks.proofs.walk.clear_range_hints.Goals as goal

pub returns : goal.returns
returns c =
    let E = c.clear_below.ensures in
    let cleared = root_cleared _ _ _ _ c.args.facts.now.shaped (rw (E.used_value, E.same.records) at c.clear_below.new.facts.shaped)
    (rw E.used_value at E.clears_below) in
    record { state = rw E.used_value cleared.state; used = E.used_value; same = E.same }
