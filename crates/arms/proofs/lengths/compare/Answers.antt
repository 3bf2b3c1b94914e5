-- `arms::lengths::compare`: what is chosen of the operands is a used record.
use borrow.Author.Rules.{rules}
use Rattle.std.proofs.Common.{true}
use Rattle.analyze.proofs.Reach.{given_choice}
use Rattle.arms.proofs.lengths.compare.Goals as goal

pub compare_with-requires : goal.compare_with-requires
compare_with-requires c = given_choice _ c.args.step (λ v. true) _ (search rules) (search rules)
