use Rattle.std.proofs.Common.{◌≡◌, ◌-◌, suc, sym, ap, ◌∙◌, arith, Some}
use Rattle.budget.proofs.WalkLaws.{leaves_some, leaves_none}
use Rattle.budget.proofs.walk.own_left.Goals as goal

pub returns-then-left-last : goal.returns-then-left-last
returns-then-left-last c = sym (leaves_none (suc c.args.last) c.args.left (omega arith))

pub returns : goal.returns
returns c =
    let same : c.args.left - c.args.last - 1 ≡ c.args.left - suc c.args.last = omega arith in
    ap Some same ∙ sym (leaves_some (suc c.args.last) c.args.left (omega arith))
