use Rattle.std.proofs.Common.{rules}
use Rattle.labels.proofs.Stacks.{changed_none, changed_more, slot_length}
use Rattle.labels.proofs.stack.stack_ones.Goals as goal

pub loop-i-init : goal.loop-i-init
loop-i-init c = changed_none _ _ _

pub loop-i-preserved : goal.loop-i-preserved
loop-i-preserved c = search (changed_more, slot_length, rules)
