-- `word::power::power_below_256` meets its contract: the limb that is set has the weight 2^0, 2^64, 2^128 or 2^192.
use Rattle.std.proofs.Common.{add-zero, mul_assoc, zero-add, arith}
use Rattle.word.proofs.Powers.{limb_power}
use Rattle.word.proofs.power.power_below_256.Goals as goal

pub returns-then-shift-lt128 : goal.returns-then-shift-lt128
returns-then-shift-lt128 c = simp (zero-add, add-zero) (limb_power _ 64 _ (omega arith) (omega arith))

pub returns-then-shift-lt192 : goal.returns-then-shift-lt192
returns-then-shift-lt192 c = simp (zero-add, add-zero, mul_assoc) (limb_power _ 128 _ (omega arith) (omega arith))

pub returns-else-shift-lt192 : goal.returns-else-shift-lt192
returns-else-shift-lt192 c = simp (add-zero, mul_assoc) (limb_power _ 192 _ (omega arith) (omega arith))
