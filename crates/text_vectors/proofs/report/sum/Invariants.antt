-- The sum is a remainder, so its product by 31 fits.
use Rattle.std.proofs.Common.{◌<◌}
use Rattle.text_vectors.proofs.report.sum.Given as goal

abbrev pub invariant-loop-b : goal.invariant-loop-b
invariant-loop-b l = l.s < 1000000007
