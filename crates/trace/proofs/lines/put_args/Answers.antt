-- Piece by piece.
use Rattle.std.proofs.Common.{rules}
use Rattle.spell.proofs.Stores.{stored_both}
use Rattle.trace.specs.Text.{args_line}
use Rattle.trace.proofs.lines.put_args.Goals as goal

pub returns-clause-stored : goal.returns-clause-stored
unfolding args_line
returns-clause-stored c = search (stored_both, rules)
