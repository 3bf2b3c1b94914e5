use Rattle.std.proofs.Common.{arith}
use Rattle.paths.proofs.Spotting.{kid_behind}
use Rattle.paths.proofs.links.Links.start.Goals as goal

pub field-requires : goal.field-requires
field-requires c =
    let p = c.requires in
    let e = c.behind-next.ensures in
    let k = kid_behind _ _ _ _ c.args.self.now.linked p.0 p.1 _ _ c.loop-passed.invariant.0 e.0 e.1 c.if-next-eq0.false in
    (let a = k.above in omega arith, k.used, omega arith)

pub loop-passed-preserved : goal.loop-passed-preserved
loop-passed-preserved c =
    let p = c.requires in
    let e = c.behind-next.ensures in
    let k = kid_behind _ _ _ _ c.args.self.now.linked p.0 p.1 _ _ c.loop-passed.invariant.0 e.0 e.1 c.if-next-eq0.false in
    let v = c.loop-passed.invariant.1 in
    let j = c.ahead_with-ahead.ensures in
    (record { kid = λ _. k; below = λ _. let q = c.field.ensures in let l = c.if-key-field.false in omega arith }, omega arith)
