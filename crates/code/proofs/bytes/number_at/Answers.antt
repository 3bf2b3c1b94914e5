-- `code::bytes::number_at`: each byte fits behind those before it.
use Rattle.code.proofs.Digits.{read_none, shifted_fits, added_fits, read_more}
use Rattle.code.proofs.bytes.number_at.Goals as goal

pub loop-byte-init : goal.loop-byte-init
loop-byte-init c = read_none _ _ _

pub overflow_mul-number : goal.overflow_mul-number
overflow_mul-number c = shifted_fits _ _ _ _ _ c.requires c.loop-byte-test.true c.loop-byte.invariant c.type_inv.code

pub overflow_add-number : goal.overflow_add-number
overflow_add-number c = added_fits _ _ _ _ _ c.requires c.loop-byte-test.true c.loop-byte.invariant c.type_inv.code _ c.from.ensures

pub loop-byte-preserved : goal.loop-byte-preserved
loop-byte-preserved c = read_more _ _ _ _ _ c.requires c.loop-byte-test.true c.loop-byte.invariant c.type_inv.code _ c.from.ensures
