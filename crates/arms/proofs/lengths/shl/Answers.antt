-- `arms::lengths::shl`: a shift leaves 32 bytes at most.
use Rattle.arms.proofs.LengthLaws.{bytes_most}
use Rattle.arms.proofs.lengths.shl.Goals as goal

pub bytes_named-requires : goal.bytes_named-requires
bytes_named-requires c = bytes_most _ _ _ _ c.bytes_shift.ensures
