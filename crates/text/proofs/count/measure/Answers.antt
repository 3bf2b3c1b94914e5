-- The count from the left, turn by turn and at its end.
use Rattle.std.proofs.Common.{rules}
use Rattle.text.proofs.Counts.{count_stop, count_again}
use Rattle.text.proofs.Lengths.{counting_none, counting_short, counting_done}
use Rattle.text.proofs.count.measure.Goals as goal

pub loop-code-init : goal.loop-code-init
loop-code-init c = counting_none _

pub returns-in_err-t : goal.returns-in_err-t
returns-in_err-t c = search (count_stop, rules)

pub loop-code-preserved : goal.loop-code-preserved
loop-code-preserved c = search (count_again, rules)

pub returns-then-t-ne0 : goal.returns-then-t-ne0
returns-then-t-ne0 c = search (counting_short, rules)

pub returns : goal.returns
returns c = search (counting_done, rules)
