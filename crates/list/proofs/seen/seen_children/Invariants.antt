use Rattle.paths.specs.Lent.{facts_of}
use Rattle.paths.specs.Walking.{chain_left}
use Rattle.list.proofs.ChildrenLaws.{Looking}
use Rattle.list.proofs.seen.seen_children.Given as goal

abbrev pub invariant-loop-c : goal.invariant-loop-c
invariant-loop-c l = Looking (facts_of l.facts) l.r l.count l.last_key l.last_kind (chain_left l.c-iterator)
