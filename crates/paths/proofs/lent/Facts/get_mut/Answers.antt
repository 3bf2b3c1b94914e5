use Rattle.std.proofs.Common.{refl, arith}
use Rattle.paths.proofs.Finds.{get_none, get_seen, get_unseen}
use Rattle.paths.proofs.lent.Facts.get_mut.Goals as goal

pub returns-in_err-c-clause-value : goal.returns-in_err-c-clause-value
returns-in_err-c-clause-value c =
    rw c.from_residual.ensures (get_none _ _ _ _ 0 (rw (c.links.ensures.0, c.links.ensures.1) at c.in_err-c.ensures.value) (omega arith) refl)

pub returns-then-field-eq1-clause-value : goal.returns-then-field-eq1-clause-value
returns-then-field-eq1-clause-value c =
    let E = rw (c.links.ensures.0, c.links.ensures.1) at c.in_ok-c.ensures in
    get_seen _ _ _ _ _ E.value E.used.1 (λ z. let l = E.used.0 in absurd (omega arith)) _ c.field.ensures c.if-field-eq1.true

pub returns-else-field-eq1-clause-value : goal.returns-else-field-eq1-clause-value
returns-else-field-eq1-clause-value c =
    let E = rw (c.links.ensures.0, c.links.ensures.1) at c.in_ok-c.ensures in
    get_unseen _ _ _ _ _ E.value E.used.1 (λ z. let l = E.used.0 in absurd (omega arith)) _ c.field.ensures c.if-field-eq1.false
