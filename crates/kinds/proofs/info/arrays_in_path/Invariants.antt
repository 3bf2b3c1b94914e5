use Rattle.paths.specs.Lent.{facts_of}
use Rattle.paths.specs.Walking.{upward_left}
use Rattle.kinds.proofs.UpLaws.{Counting}
use Rattle.kinds.proofs.info.arrays_in_path.Given as goal

abbrev pub invariant-loop-c : goal.invariant-loop-c
invariant-loop-c l = Counting (facts_of l.facts) l.r l.arrays (upward_left l.c-iterator)
