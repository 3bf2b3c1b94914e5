use Rattle.std.proofs.Common.{◌*◌}
use Rattle.limits.specs.Limits.{word_bytes}
use Rattle.paths.specs.Lent.{facts_in, IsSameTable}
use Rattle.paths.specs.Place.{Before}
use Rattle.kinds.proofs.FillLaws.{Filling}
use Rattle.kinds.proofs.filling.fill.Given as goal

abbrev pub invariant-loop-i : goal.invariant-loop-i
invariant-loop-i l =
    Filling (facts_in l.initial.facts) l.words l.facts.table.now l.facts.used l.i
    × Before l.facts.table.now l.facts.used 1 (word_bytes * l.i) l.prev × IsSameTable l.initial.facts l.facts
