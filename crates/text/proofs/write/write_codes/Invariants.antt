-- What is left to write, written, is what there was to write.
use Rattle.std.proofs.Common.{◌≤◌, length}
use Rattle.spell.specs.Writer.{SameSlice}
use Rattle.text.specs.Machine.{stack_of}
use Rattle.text.proofs.Writings.{Writing}
use Rattle.text.proofs.write.write_codes.Given as goal

abbrev pub invariant-loop-i : goal.invariant-loop-i
invariant-loop-i l =
    Writing l.codes l.fn.w.out.now l.fn.w.to (stack_of l.held.items) l.w.out.now l.w.to l.i
    × SameSlice l.fn.w l.w × (length l.held.items ≤ l.i)
