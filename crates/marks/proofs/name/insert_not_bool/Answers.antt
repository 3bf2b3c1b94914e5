use Rattle.std.proofs.Common.{rules}
use Rattle.marks.specs.Names.{insert_not_bool}
use Rattle.marks.proofs.name.insert_not_bool.Goals as goal

pub returns : goal.returns
unfolding insert_not_bool
returns c = search rules
