use Rattle.std.proofs.Common.{◌≡◌, ◌-◌}
use Rattle.facts.proofs.Chains.{top}
use Rattle.facts.specs.Table.{key_of}
use Rattle.paths.specs.Lent.{IsSameTable}
use Rattle.paths.proofs.Walk.{left}
use Rattle.marks.proofs.WalkLaws.{Clearing}
use Rattle.marks.proofs.walk.+clear_below.Given as goal

abbrev pub invariant-loop-c : goal.invariant-loop-c
invariant-loop-c l =
    Clearing l.initial.facts.table.now l.initial.facts.used l.initial.facts.records l.p l.facts.table.now l.c
    × (l.facts.used ≡ l.initial.facts.used) × IsSameTable l.initial.facts l.facts

abbrev pub decreases-loop-c : goal.decreases-loop-c
decreases-loop-c l = left (top l.initial.facts.table.now) l.c (key_of l.facts.table.now l.c)

abbrev pub decreases-clear_below : goal.decreases-clear_below
decreases-clear_below l = l.facts.now.used - l.p
