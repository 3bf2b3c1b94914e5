-- `mask::low_run` meets its contract: m and m + 1 have no bit in common just where m + 1 is a power of two.
use Rattle.std.proofs.Common.{rules}
use Rattle.word.proofs.Limbs.{value_lt}
use Rattle.mask.proofs.Runs.{run_of_ones, no_run}
use Rattle.mask.proofs.low_run.Goals as goal

pub returns-then-is_zero : goal.returns-then-is_zero
returns-then-is_zero c = search (run_of_ones, value_lt, rules)

pub returns-else-is_zero : goal.returns-else-is_zero
returns-else-is_zero c = search (no_run, rules)
