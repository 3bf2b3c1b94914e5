-- The count from the left.
use Rattle.text.proofs.Lengths.{Counting}
use Rattle.text.proofs.count.measure.Given as goal

abbrev pub invariant-loop-code : goal.invariant-loop-code
invariant-loop-code l = Counting l.codes l.t.wanted l.t.length l.code-index
