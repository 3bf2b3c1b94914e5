-- `code::bytes::number_at`: after i bytes the number is that of the first i.
use Rattle.code.proofs.Digits.{Read}
use Rattle.code.proofs.bytes.number_at.Given as goal

abbrev pub invariant-loop-byte : goal.invariant-loop-byte
invariant-loop-byte l = Read l.code l.at l.n l.number l.byte-index
