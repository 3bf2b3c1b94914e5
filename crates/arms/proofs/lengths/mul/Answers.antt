-- `arms::lengths::mul`: what is chosen of the operands is a used record, or the general arm is left.
use borrow.Author.Rules.{rules}
use Rattle.std.proofs.Common.{true}
use Rattle.labels.specs.Operands.{is_length}
use Rattle.analyze.specs.Length.{mul}
use Rattle.analyze.proofs.Reach.{given_choice, chosen_reaches}
use Rattle.arms.proofs.lengths.mul.Goals as goal

pub mark_first-requires : goal.mark_first-requires
mark_first-requires c = given_choice _ c.args.step (λ v. true) _ (search rules) (search rules)

pub multiply-requires : goal.multiply-requires
multiply-requires c = chosen_reaches _ _ _ c.in-Some.is (given_choice _ c.args.step is_length _ (search rules) (search rules))

pub returns-in-None : goal.returns-in-None
unfolding mul
returns-in-None c =
    let length = c.choose.ensures is_length (search rules) in
    let any = c.choose-any.ensures (λ v. true) (search rules) in
    search rules
