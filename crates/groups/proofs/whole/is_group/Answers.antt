-- Counts over the sizes, and as many bytes as they ask for or not.
use Rattle.std.proofs.Common.{rules}
use Rattle.groups.proofs.Wholes.{counts_over, as_many}
use Rattle.groups.proofs.whole.is_group.Goals as goal

pub returns-in-Some : goal.returns-in-Some
returns-in-Some c = search (as_many, rules)

pub returns-in-None : goal.returns-in-None
returns-in-None c = search (counts_over, rules)
