use Rattle.facts.proofs.Check.{Added}
use Rattle.facts.proofs.links.are_chained_records.Given as goal

abbrev pub invariant-loop-r : goal.invariant-loop-r
invariant-loop-r l = Added l.table l.used l.r l.links l.records
