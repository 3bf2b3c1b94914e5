-- The step of a whole group.
use Rattle.std.proofs.Common.{refl}
use Rattle.groups.specs.Call.{step}
use Rattle.groups.proofs.take.take_group.Goals as goal

pub returns : goal.returns
returns c = step c.if-not-is_group.ensures _ refl c.put_step.ensures
