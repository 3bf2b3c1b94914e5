use Rattle.std.proofs.Common.{arith}
use Rattle.std.proofs.lemmas.Grind.{common_steps}
use borrow.Author.Tests.{ne_eqb}
use Rattle.marks.specs.Hints.{clear_range_hint}
use Rattle.marks.proofs.hint.clear_range_hint.Goals as goal

pub returns-in-Some : goal.returns-in-Some
unfolding clear_range_hint
returns-in-Some c =
    let E = rw (c.read.ensures.0, c.read.ensures.2) at c.in-Some.ensures in
    rw (← E.value, ne_eqb c.in-Some.c 0 (λ z. let l = E.used.0 in absurd (omega arith))) c.clear_at.ensures

pub returns-in_default : goal.returns-in_default
unfolding clear_range_hint
returns-in_default c = grind (arith, common_steps)
