use Rattle.std.proofs.Common.{◌≡◌, ◌≤◌}
use Rattle.paths.proofs.Spotting.{Spotting, keys_left}
use Rattle.paths.proofs.links.Links.place_behind.Given as goal

abbrev pub invariant-loop-next : goal.invariant-loop-next
invariant-loop-next l = Spotting l.self.table.now l.self.used l.parent l.key l.prev l.next

abbrev pub decreases-loop-next : goal.decreases-loop-next
decreases-loop-next l = keys_left l.self.table.now l.key l.prev

abbrev pub invariant-loop-parent : goal.invariant-loop-parent
invariant-loop-parent l =
    Spotting l.self.table.now l.self.used l.parent l.key l.prev l.c × (l.c ≡ 0 → ⊥)
    × (keys_left l.self.table.now l.key l.prev ≤ keys_left l.self.table.now l.key l.initial.prev)

abbrev pub decreases-loop-parent : goal.decreases-loop-parent
decreases-loop-parent l = keys_left l.self.table.now l.key l.prev
