-- Number by number.
use Rattle.std.proofs.Common.{rules, length-set}
use Rattle.trace.proofs.NumberLaws.{numbers_none, numbers_more}
use Rattle.trace.proofs.numbers.read_numbers.Goals as goal

pub loop-i-init : goal.loop-i-init
loop-i-init c = search (numbers_none, rules)

pub loop-i-preserved : goal.loop-i-preserved
loop-i-preserved c = search (numbers_more, length-set, rules)
