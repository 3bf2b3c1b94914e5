use Rattle.std.proofs.Common.{◌≡◌, ◌≤◌, ◌-◌, length}
use Rattle.facts.specs.Links.{Kid}
use Rattle.facts.specs.State.{kids_in}
use Rattle.paths.specs.Lent.{facts_of}
use Rattle.paths.specs.Walking.{from_on}
use Rattle.budget.proofs.WalkLaws.{Paying}
use Rattle.budget.proofs.walk.+left_below.Given as goal

abbrev pub decreases-left_below : goal.decreases-left_below
decreases-left_below l = l.facts.now.used - l.r

-- a chain is walked from l.child on, and in the loop inside from l.c on
abbrev pub invariant-loop-child : goal.invariant-loop-child
invariant-loop-child l =
    Paying (facts_of l.facts) l.r l.depth l.left l.rest l.last_key (from_on l.child (kids_in (facts_of l.facts) l.r))
    × ((l.child ≡ 0 → ⊥) → Kid l.facts.table.now l.facts.used l.r l.child)

abbrev pub decreases-loop-child : goal.decreases-loop-child
decreases-loop-child l = length (from_on l.child (kids_in (facts_of l.facts) l.r))

abbrev pub invariant-loop-r : goal.invariant-loop-r
invariant-loop-r l =
    Paying (facts_of l.facts) l.r l.depth l.left l.rest l.last_key (from_on l.c (kids_in (facts_of l.facts) l.r))
    × Kid l.facts.table.now l.facts.used l.r l.c
    × (length (from_on l.c (kids_in (facts_of l.facts) l.r)) ≤ length (from_on l.initial.c (kids_in (facts_of l.facts) l.r)))

abbrev pub decreases-loop-r : goal.decreases-loop-r
decreases-loop-r l = length (from_on l.c (kids_in (facts_of l.facts) l.r))
