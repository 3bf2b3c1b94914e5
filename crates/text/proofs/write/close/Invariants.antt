-- What is left to close, closed, is what there was to close.
use Rattle.std.proofs.Common.{◌≤◌, length}
use Rattle.spell.specs.Writer.{SameSlice}
use Rattle.text.specs.Machine.{stack_of}
use Rattle.text.proofs.Stacks.{Turn}
use Rattle.text.proofs.write.close.Given as goal

abbrev pub invariant-loop-left : goal.invariant-loop-left
invariant-loop-left l =
    Turn (stack_of l.fn.held.items) l.fn.w.out.now l.fn.w.to (stack_of l.held.items) l.w.out.now l.w.to
    × SameSlice l.fn.w l.w × (length l.held.items ≤ length l.fn.held.items)

abbrev pub decreases-loop-left : goal.decreases-loop-left
decreases-loop-left l = length l.held.items
