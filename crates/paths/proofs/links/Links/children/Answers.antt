use Rattle.std.proofs.Common.{refl, arith}
use Rattle.paths.proofs.Chaining.{kid_after, left_all}
use Rattle.paths.proofs.links.Links.children.Goals as goal

pub invariant_of-result : goal.invariant_of-result
invariant_of-result c =
    let p = c.requires in
    record {
      range = p;
      kid = kid_after _ _ _ c.args.self.now.linked p.0 p.1 0 _ (λ m. absurd (m refl)) (λ z. c.child.ensures) (λ m. absurd (m refl));
      fits = omega arith;
    }

pub returns : goal.returns
returns c = left_all _ _ _ c.args.self.now.linked c.requires.0 c.requires.1 _ c.child.ensures
