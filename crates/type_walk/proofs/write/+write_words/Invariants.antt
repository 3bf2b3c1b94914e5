use Rattle.std.proofs.Common.{◌≡◌, ◌-◌, ◌≤◌, length}
use Rattle.types.specs.Codes.{all_codes}
use Rattle.facts.specs.Links.{Kid}
use Rattle.paths.specs.Lent.{facts_of}
use Rattle.list.specs.Types.{word_types}
use Rattle.type_walk.proofs.WriteLaws.{Writing, kids_from}
use Rattle.type_walk.proofs.write.+write_words.Given as goal

abbrev pub decreases-write_words : goal.decreases-write_words
decreases-write_words l = l.facts.now.used - l.r

abbrev pub invariant-loop-child : goal.invariant-loop-child
invariant-loop-child l =
    Writing l.facts.table.now l.facts.used l.facts.records l.r l.end l.fn.types l.at (all_codes (word_types (facts_of l.facts) l.r l.start l.words))
    l.types l.to l.next (kids_from (facts_of l.facts) l.r l.child)
    × ((l.child ≡ 0 → ⊥) → Kid l.facts.table.now l.facts.used l.r l.child)

abbrev pub decreases-loop-child : goal.decreases-loop-child
decreases-loop-child l = length (kids_from (facts_of l.facts) l.r l.child)

abbrev pub invariant-loop-types : goal.invariant-loop-types
invariant-loop-types l =
    Writing l.facts.table.now l.facts.used l.facts.records l.r l.end l.fn.types l.at (all_codes (word_types (facts_of l.facts) l.r l.start l.words))
    l.types l.to l.next (kids_from (facts_of l.facts) l.r l.c)
    × Kid l.facts.table.now l.facts.used l.r l.c
    × (length (kids_from (facts_of l.facts) l.r l.c) ≤ length (kids_from (facts_of l.facts) l.r l.initial.c))

abbrev pub decreases-loop-types : goal.decreases-loop-types
decreases-loop-types l = length (kids_from (facts_of l.facts) l.r l.c)
