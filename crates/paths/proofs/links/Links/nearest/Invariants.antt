use Rattle.std.proofs.Common.{◌≤◌}
use Rattle.paths.specs.Place.{Before}
use Rattle.paths.proofs.links.Links.nearest.Given as goal

abbrev pub invariant-loop-r : goal.invariant-loop-r
invariant-loop-r l = Before l.self.table.now l.self.used l.parent l.key l.near.child × (l.near.low ≤ l.key)
