use Rattle.std.proofs.Common.{refl, sym, arith, ◌∙◌}
use Rattle.paths.proofs.Finds.{ensured_old, ensured_new}
use Rattle.paths.proofs.lent.FactsMut.ensure_after.Goals as goal

pub returns-in-Some : goal.returns-in-Some
returns-in-Some c =
    let E = rw (c.links-links.ensures.0, c.links-links.ensures.1) at c.in-Some.ensures in
    let M = ensured_old _ _ _ _ _ _ c.args.self.now.shaped E.value E.used.1 (λ z. let l = E.used.0 in absurd (omega arith)) in
    record { state = M.state; number = M.number; range = M.range; same = record { records = refl; reference = refl } }

pub returns-in-None : goal.returns-in-None
returns-in-None c =
    let E = c.insert_at.ensures in
    let G = E.grows in
    let v = E.value in
    let M = ensured_new _ _ c.args.self.now.records _ _ _ (sym (rw (c.links-links.ensures.0, c.links-links.ensures.1) at c.in-None.ensures.value))
    (record { shaped = rw (v.1, G.same.records) at c.insert_at.new.self.shaped; state = rw v.1 at G.state }) in
    record { state = rw v.1 M.state; number = v.0 ∙ M.number; range = omega arith; same = G.same }
