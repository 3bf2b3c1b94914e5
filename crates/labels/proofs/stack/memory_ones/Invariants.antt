use Rattle.std.proofs.Common.{length, ◌/◌}
use Rattle.limits.specs.Layout.{entry_width}
use Rattle.labels.specs.Stack.{entry_one}
use Rattle.labels.proofs.Stacks.{Changed}
use Rattle.labels.proofs.stack.memory_ones.Given as goal

abbrev pub invariant-loop-i : goal.invariant-loop-i
invariant-loop-i l = Changed (entry_one l.path) l.initial.memory (length l.initial.memory / entry_width) l.i l.memory
