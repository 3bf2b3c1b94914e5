use Rattle.std.proofs.Common.{length, ◌/◌}
use Rattle.limits.specs.Layout.{slot_width}
use Rattle.labels.specs.Stack.{slot_one}
use Rattle.labels.proofs.Stacks.{Changed}
use Rattle.labels.proofs.stack.stack_ones.Given as goal

abbrev pub invariant-loop-i : goal.invariant-loop-i
invariant-loop-i l = Changed (slot_one l.path) l.initial.stack (length l.initial.stack / slot_width) l.i l.stack
