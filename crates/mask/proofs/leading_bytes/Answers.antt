-- `mask::leading_bytes` meets its contract: leading ff bytes with the rest zero are low ones of the complement.
use Rattle.std.proofs.Common.{rules}
use Rattle.word.proofs.Limbs.{value_lt}
use Rattle.mask.proofs.ByteCounts.{leading_lost, leading_whole, leading_broken, leading_empty}
use Rattle.mask.proofs.leading_bytes.Goals as goal

pub returns-in-Some : goal.returns-in-Some
returns-in-Some c = search (leading_whole, value_lt, rules)

pub returns-in_default : goal.returns-in_default
returns-in_default c = search (leading_empty, value_lt, rules)

pub returns-in_default-2 : goal.returns-in_default-2
returns-in_default-2 c = search (leading_broken, value_lt, rules)

pub returns-in_default-3 : goal.returns-in_default-3
returns-in_default-3 c = search (leading_lost, value_lt, rules)
