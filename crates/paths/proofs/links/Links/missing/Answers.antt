use Rattle.std.proofs.Common.{refl, arith}
use Rattle.paths.proofs.Finds.{missing_none, missing_some}
use Rattle.paths.proofs.links.Links.missing.Goals as goal

pub returns-in-Some : goal.returns-in-Some
returns-in-Some c =
    let E = c.in-Some.ensures in
    (missing_some _ _ _ _ E.value (λ z. let l = E.used.0 in absurd (omega arith)), omega arith)

pub returns-in-None : goal.returns-in-None
returns-in-None c = (missing_none _ _ _ 0 c.in-None.ensures.value refl, omega arith)
