use Rattle.std.proofs.Common.{ap, ◌==◌}
use Rattle.facts.specs.State.{Node}
use Rattle.paths.proofs.Frame.{read}
use Rattle.paths.proofs.lent.Facts.is_seen.Goals as goal

pub returns : goal.returns
returns c = rw c.field.ensures (ap (λ (n : Node). n.seen == 1) (read _ _ _ c.requires.0 c.requires.1))
