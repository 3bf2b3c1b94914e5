-- `arms::loads::new_offset`: the words that are taken off, by the arrays on the path.
use Rattle.std.proofs.Common.{arith}
use Rattle.arms.proofs.LoadLaws.{whole_least, few_arrays, offset_kept, offset_taken}
use Rattle.arms.proofs.loads.new_offset.Goals as goal

pub overflow_sub-behind : goal.overflow_sub-behind
overflow_sub-behind c = whole_least _ c.requires.add_val_value

pub overflow_mul-off : goal.overflow_mul-off
overflow_mul-off c = let h = c.args.facts.now in omega (arith, few_arrays _ _ _ c.args.val _ h.shaped.most c.requires.small c.requires.ready c.arrays_in_path-off.ensures)

pub returns-then-behind-off : goal.returns-then-behind-off
returns-then-behind-off c = offset_kept _ c.args.val _ c.arrays_in_path-off.ensures c.if-behind-off.true

pub returns : goal.returns
returns c = offset_taken _ c.args.val _ c.arrays_in_path-off.ensures c.if-behind-eq0.false c.if-behind-off.false
