-- The three runs of numbers lie inside a whole group, and are its parts.
use Rattle.std.proofs.Common.{rules, refl}
use Rattle.groups.proofs.Putting.{put_parts}
use Rattle.groups.proofs.take.put_step.Goals as goal

pub returns : goal.returns
returns c =
    put_parts _ _ _ _ _ _ _ _ _ _ _ _ _ _ (search rules) c.requires.stack_len.0 c.requires.stack_len.1 refl c.read_numbers.ensures
    c.read_numbers-2.ensures c.read_numbers-3.ensures c.run_step.ensures
