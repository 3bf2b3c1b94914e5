use Rattle.std.proofs.Common.{◌*◌}
use Rattle.limits.specs.Limits.{word_bytes}
use Rattle.paths.specs.Lent.{facts_of}
use Rattle.paths.specs.Place.{Before}
use Rattle.kinds.proofs.FillLaws.{Lacking}
use Rattle.kinds.proofs.filling.fill_missing.Given as goal

abbrev pub invariant-loop-i : goal.invariant-loop-i
invariant-loop-i l =
    Lacking (facts_of l.facts) l.words l.absent l.i × Before l.facts.table.now l.facts.used 1 (word_bytes * l.i) l.prev
