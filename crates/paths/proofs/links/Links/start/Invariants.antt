use Rattle.std.proofs.Common.{◌≤◌}
use Rattle.paths.specs.Place.{Before}
use Rattle.paths.proofs.links.Links.start.Given as goal

abbrev pub invariant-loop-passed : goal.invariant-loop-passed
invariant-loop-passed l = Before l.self.table.now l.self.used l.parent l.key l.prev × (l.ahead ≤ l.passed)
