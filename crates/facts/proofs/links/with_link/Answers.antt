use Rattle.facts.proofs.Weights.{lead_none, lead_some}
use Rattle.facts.proofs.links.with_link.Goals as goal

pub returns-then-c-eq0 : goal.returns-then-c-eq0
returns-then-c-eq0 c = lead_none _ _ _ _ _ _ c.if-c-eq0.true

pub returns : goal.returns
returns c =
    let w = c.weight_of-weight.ensures in
    lead_some _ _ _ _ _ _ c.if-c-eq0.false c.if-used-c.false _ c.field.ensures c.if-field-p.false _ w.0 w.1
    c.if-weight-before.false
