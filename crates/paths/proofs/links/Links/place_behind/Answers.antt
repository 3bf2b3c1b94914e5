use Rattle.std.proofs.Common.{arith, sym, ◌∙◌}
use Rattle.paths.proofs.Spotting.{spotting_start, spotting_next, spotted, keys_fewer}
use Rattle.paths.proofs.links.Links.place_behind.Goals as goal

pub loop-next-init : goal.loop-next-init
loop-next-init c =
    let p = c.requires.le_parent in
    let e = c.behind-next.ensures in
    spotting_start _ _ _ _ c.args.self.now.linked p.0 p.1 _ _ c.requires.before e.0 e.1

pub loop-parent-init : goal.loop-parent-init
loop-parent-init c = (c.loop-next.invariant, c.loop-next-test.true, omega arith)

pub field-requires : goal.field-requires
field-requires c =
    let I = c.loop-parent.invariant in
    let K = I.0.at.first.kid I.1 in
    (let a = K.above in omega arith, K.used, omega arith)

pub returns-then-key-field : goal.returns-then-key-field
returns-then-key-field c =
    let p = c.requires.le_parent in
    spotted _ _ _ _ c.args.self.now.linked p.0 p.1 _ _ c.loop-parent.invariant.0 (λ _. rw c.field.ensures at c.if-key-field.true)

pub next-next-requires : goal.next-next-requires
next-next-requires c =
    let I = c.loop-parent.invariant in
    let K = I.0.at.first.kid I.1 in
    (let a = K.above in omega arith, K.used)

pub loop-next-smaller : goal.loop-next-smaller
loop-next-smaller c =
    let I = c.loop-parent.invariant in
    let l = keys_fewer _ _ _ _ _ _ I.0 I.1 (rw c.field.ensures at c.if-key-field.false) in
    omega (arith, I.2)

pub loop-next-preserved : goal.loop-next-preserved
loop-next-preserved c =
    let p = c.requires.le_parent in
    let I = c.loop-parent.invariant in
    spotting_next _ _ _ _ c.args.self.now.linked p.0 p.1 _ _ _ I.0 I.1 (rw c.field.ensures at c.if-key-field.false) c.next-next.ensures

pub loop-parent-smaller : goal.loop-parent-smaller
loop-parent-smaller c =
    let I = c.loop-parent.invariant in
    keys_fewer _ _ _ _ _ _ I.0 I.1 (rw c.field.ensures at c.if-key-field.false)

pub loop-parent-preserved : goal.loop-parent-preserved
loop-parent-preserved c =
    let p = c.requires.le_parent in
    let I = c.loop-parent.invariant in
    let l = loop-parent-smaller c in (
      spotting_next _ _ _ _ c.args.self.now.linked p.0 p.1 _ _ _ I.0 I.1 (rw c.field.ensures at c.if-key-field.false)
          (sym c.if-next-follow.false ∙ c.next-next.ensures),
      λ z. absurd (omega arith),
      omega (arith, I.2),
    )

pub returns : goal.returns
returns c =
    let p = c.requires.le_parent in
    let z = c.loop-next-test.false in
    rw z at (spotted _ _ _ _ c.args.self.now.linked p.0 p.1 _ _ c.loop-next.invariant (λ n. absurd (n z)))
