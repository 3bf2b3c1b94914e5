use Rattle.std.proofs.Common.{refl, arith}
use Rattle.paths.proofs.Growth.{grown_by, inserted}
use Rattle.paths.proofs.Finds.{absent}
use Rattle.paths.proofs.insert.link_in.Goals as goal

pub returns-then-spot-eq0-clause-represents : goal.returns-then-spot-eq0-clause-represents
returns-then-spot-eq0-clause-represents c =
    let S = c.requires.shaped in
    let p1 = c.requires.le_parent.0 in
    let pu = c.requires.le_parent.1 in
    let un = c.requires.le_parent.2 in
    let ln = S.size in
    inserted _ _ _ _ _ _ _ _ S p1 pu un (absent _ _ _ _ S.linked S.root_parent p1 c.requires.key_value) c.requires.place
    (grown_by _ _ _ _ _ _ _ 2 p1 pu (omega arith) (S.beyond _ (omega arith) (omega arith)) p1 pu (omega arith) (λ z. (refl, refl)) (λ n. absurd (n c.if-spot-eq0.true))
    _ _ _ _ c.set_field.ensures c.set_field-2.ensures c.set_field-3.ensures c.set_field-then-spot-eq0.ensures)

pub returns-clause-represents : goal.returns-clause-represents
returns-clause-represents c =
    let S = c.requires.shaped in
    let p1 = c.requires.le_parent.0 in
    let pu = c.requires.le_parent.1 in
    let un = c.requires.le_parent.2 in
    let ln = S.size in
    let Q = c.requires.place in
    let K = Q.before.kid c.if-spot-eq0.false in
    inserted _ _ _ _ _ _ _ _ S p1 pu un (absent _ _ _ _ S.linked S.root_parent p1 c.requires.key_value) Q
    (grown_by _ _ _ _ _ _ _ 3 p1 pu (omega arith) (S.beyond _ (omega arith) (omega arith)) (let a = K.above in omega arith) K.used (omega arith) (λ z. absurd (c.if-spot-eq0.false z)) (λ n. (refl, refl))
    _ _ _ _ c.set_field.ensures c.set_field-2.ensures c.set_field-3.ensures c.set_field-4.ensures)
