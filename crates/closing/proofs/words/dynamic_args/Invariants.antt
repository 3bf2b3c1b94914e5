use Rattle.paths.specs.Lent.{facts_of}
use Rattle.paths.specs.Walking.{chain_left}
use Rattle.closing.proofs.WordLaws.{Seeking}
use Rattle.closing.proofs.words.dynamic_args.Given as goal

abbrev pub invariant-loop-child : goal.invariant-loop-child
invariant-loop-child l = Seeking (facts_of l.facts) l.met (chain_left l.child-iterator)
