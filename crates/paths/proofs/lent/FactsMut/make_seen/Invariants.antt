use Rattle.std.proofs.Common.{◌≡◌}
use Rattle.paths.specs.Lent.{facts_in, IsSameTable}
use Rattle.paths.proofs.Seens.{Climb}
use Rattle.paths.proofs.lent.FactsMut.make_seen.Given as goal

abbrev pub invariant-loop-c : goal.invariant-loop-c
invariant-loop-c l =
    Climb (facts_in l.initial.self) l.r l.self.table.now l.self.used l.self.records l.c
    × (l.self.used ≡ l.initial.self.used) × IsSameTable l.initial.self l.self

abbrev pub decreases-loop-c : goal.decreases-loop-c
decreases-loop-c l = l.c
