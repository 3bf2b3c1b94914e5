-- `arms::lengths::multiplied`: an array mark counts at most 99 words.
use borrow.Author.Rules.{rules}
use Rattle.arms.proofs.LengthLaws.{count_most}
use Rattle.arms.proofs.lengths.multiplied.Goals as goal

pub multiplier_of-requires : goal.multiplier_of-requires
multiplier_of-requires c = search (count_most, rules)
