use Rattle.std.proofs.Common.{◌-◌}
use Rattle.paths.specs.Lent.{facts_of}
use Rattle.paths.specs.Walking.{chain_left}
use Rattle.kinds.proofs.DynamicLaws.{Seeking}
use Rattle.kinds.proofs.dynamic.+has_dynamic.Given as goal

abbrev pub invariant-loop-c : goal.invariant-loop-c
invariant-loop-c l = Seeking (facts_of l.facts) l.r (chain_left l.c-iterator)

abbrev pub decreases-has_dynamic : goal.decreases-has_dynamic
decreases-has_dynamic l = l.facts.now.used - l.r
