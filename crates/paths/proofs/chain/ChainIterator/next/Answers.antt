use Rattle.std.proofs.Common.{length, ap, arith}
use Rattle.paths.proofs.Chaining.{left_none, left_more}
use Rattle.paths.proofs.chain.ChainIterator.next.Goals as goal

pub returns-then-self-eq0-clause-steps : goal.returns-then-self-eq0-clause-steps
returns-then-self-eq0-clause-steps c =
    let s = c.args.self.now in
    let z = left_none _ _ _ s.links.linked s.range.0 s.range.1 _ c.if-self-eq0.true in
    (z, z)

pub invariant_of-self : goal.invariant_of-self
invariant_of-self c =
    let s = c.args.self.now in
    let K = s.kid c.if-self-eq0.false in
    let F = s.links.linked.next _ _ s.range.0 K in
    record { range = s.range; kid = rw c.next-self.ensures F.kid; fits = s.fits }

pub returns-clause-steps : goal.returns-clause-steps
returns-clause-steps c =
    let s = c.args.self.now in
    left_more _ _ _ s.links.linked s.range.0 s.range.1 _ _ (s.kid c.if-self-eq0.false) c.next-self.ensures

pub returns-clause-goes : goal.returns-clause-goes
returns-clause-goes c =
    let less = ap length (returns-clause-steps c) in
    record { on = λ _. (tt, tt, omega arith); keeps = tt; rests = λ _. tt }
