use Rattle.std.proofs.Common.{refl, arith, rules}
use Rattle.std.proofs.lemmas.Iterator.{YieldsList-from_range}
use Rattle.labels.proofs.Tests.{all_below}
use Rattle.labels.proofs.check.are_entries.Goals as goal

pub returns : goal.returns
returns c = all_below _ _ _ _ _ c.all.ensures.ran (YieldsList-from_range 0 _ _ refl (omega arith)) (λ i b f k. search rules)
