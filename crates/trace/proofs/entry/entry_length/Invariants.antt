-- Behind i codes so many types are wanted, and the codes left that they take make up the first type's.
use Rattle.trace.proofs.Spans.{Spanning}
use Rattle.trace.proofs.entry.entry_length.Given as goal

abbrev pub invariant-loop-i : goal.invariant-loop-i
invariant-loop-i l = Spanning l.codes l.wanted l.i
