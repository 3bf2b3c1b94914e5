-- The lines left, written behind those that are, give the lines of the list.
use Rattle.spell.specs.Writer.{SameSlice}
use Rattle.trace.proofs.EntryLoops.{Listing}
use Rattle.trace.proofs.listing.put_entries.Given as goal

abbrev pub invariant-loop-k : goal.invariant-loop-k
invariant-loop-k l =
    Listing l.entries l.codes l.fn.w.out.now l.fn.w.to l.left l.w.to l.k l.w.out.now × SameSlice l.fn.w l.w
