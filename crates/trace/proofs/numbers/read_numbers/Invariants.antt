-- Behind i turns the first i numbers are read.
use Rattle.std.proofs.Common.{◌≡◌, length, take}
use Rattle.trace.specs.Numbers.{numbers_of}
use Rattle.trace.proofs.numbers.read_numbers.Given as goal

abbrev pub invariant-loop-i : goal.invariant-loop-i
invariant-loop-i l = (length l.out ≡ length l.fn.out) × (take l.i l.out ≡ numbers_of l.i l.bytes)
