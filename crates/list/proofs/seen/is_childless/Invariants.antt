use Rattle.paths.specs.Lent.{facts_of}
use Rattle.paths.specs.Walking.{chain_left}
use Rattle.list.proofs.ChildrenLaws.{Unmet}
use Rattle.list.proofs.seen.is_childless.Given as goal

abbrev pub invariant-loop-child : goal.invariant-loop-child
invariant-loop-child l = Unmet (facts_of l.facts) l.r (chain_left l.child-iterator)
