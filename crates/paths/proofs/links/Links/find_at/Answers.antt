use Rattle.std.proofs.Common.{sym, ◌∙◌}
use Rattle.paths.proofs.Spotting.{place_found, place_other, place_end}
use Rattle.paths.proofs.Finds.{found_is}
use Rattle.paths.proofs.links.Links.find_at.Goals as goal

pub returns-then-spot-eq0-clause-value : goal.returns-then-spot-eq0-clause-value
returns-then-spot-eq0-clause-value c =
    let S = c.args.self.now in
    (found_is _ _ _ _ S.linked S.root c.requires.le_parent _
    (place_end _ _ _ _ _ _ c.requires.place c.if-spot-eq0.true)).0

pub returns-then-field-key-clause-value : goal.returns-then-field-key-clause-value
returns-then-field-key-clause-value c =
    let S = c.args.self.now in
    (found_is _ _ _ _ S.linked S.root c.requires.le_parent _
    (place_other _ _ _ _ _ _ c.requires.place c.if-spot-eq0.false (λ q. c.if-field-key.true (c.field.ensures ∙ q)))).0

pub returns-clause-value : goal.returns-clause-value
returns-clause-value c =
    let S = c.args.self.now in
    (found_is _ _ _ _ S.linked S.root c.requires.le_parent _
    (place_found _ _ _ _ _ _ c.requires.place c.if-spot-eq0.false (sym c.field.ensures ∙ c.if-field-key.false))).0
