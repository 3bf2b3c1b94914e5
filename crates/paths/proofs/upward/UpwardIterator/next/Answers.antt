use Rattle.std.proofs.Common.{length, ap, arith}
use Rattle.paths.proofs.Climbing.{ups_end, parent_less, upward_more}
use Rattle.paths.proofs.upward.UpwardIterator.next.Goals as goal

pub returns-then-self-eq0-clause-steps : goal.returns-then-self-eq0-clause-steps
returns-then-self-eq0-clause-steps c = let z = ups_end _ _ _ c.if-self-eq0.true in (z, z)

pub invariant_of-self : goal.invariant_of-self
invariant_of-self c =
    let s = c.args.self.now in
    let l = parent_less _ _ _ s.facts.shaped s.next (omega (arith, c.if-self-eq0.false)) s.within in
    record { within = omega (arith, c.parent-self.ensures, s.within) }

pub returns-clause-steps : goal.returns-clause-steps
returns-clause-steps c =
    let s = c.args.self.now in
    upward_more _ _ _ s.facts.shaped _ _ c.if-self-eq0.false s.within c.parent-self.ensures

pub returns-clause-goes : goal.returns-clause-goes
returns-clause-goes c =
    let less = ap length (returns-clause-steps c) in
    record { on = λ _. (tt, tt, omega arith); keeps = tt; rests = λ _. tt }
