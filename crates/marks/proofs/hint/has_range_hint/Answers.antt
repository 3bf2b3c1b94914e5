use Rattle.std.proofs.Common.{arith, refl}
use Rattle.std.proofs.lemmas.Grind.{common_steps}
use borrow.Author.Tests.{ne_eqb}
use Rattle.marks.specs.Hints.{has_range_hint}
use Rattle.marks.proofs.hint.has_range_hint.Goals as goal

pub returns-in-Some : goal.returns-in-Some
unfolding has_range_hint
returns-in-Some c =
    let E = c.in-Some.ensures in
    rw (← E.value, ne_eqb c.in-Some.c 0 (λ z. let l = E.used.0 in absurd (omega arith)), c.confidence.ensures) refl

pub returns-in-None : goal.returns-in-None
unfolding has_range_hint
returns-in-None c = grind (arith, common_steps)
