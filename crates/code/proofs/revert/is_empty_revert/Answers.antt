-- `code::revert::is_empty_revert`: one JUMPDEST, an empty part, or another byte.
use Rattle.std.proofs.Common.{rules}
use Rattle.code.proofs.Reverts.{past_jumpdest, no_jumpdest, no_byte}
use Rattle.code.proofs.revert.is_empty_revert.Goals as goal
use Rattle.code.proofs.revert.is_empty_revert.Goals.{in_default-via-then-part-lt1, in_default-via-else-part-lt1+in_default-1}

pub returns-in-91 : goal.returns-in-91
returns-in-91 c = search (past_jumpdest, rules)

pub returns-in_default : goal.returns-in_default
returns-in_default c = elim c.in_default.branch [ in_default-via-then-part-lt1 w ↦ search (no_byte, rules) | in_default-via-else-part-lt1+in_default-1 w ↦ search (no_jumpdest, rules) ]
