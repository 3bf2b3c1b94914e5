use Rattle.std.proofs.Common.{◌≡◌, rules, false, List}
use Rattle.facts.specs.State.{Node}
use Rattle.paths.specs.Lent.{facts_in}
use Rattle.paths.specs.Make.{Made}
use Rattle.paths.proofs.Lending.{makes_then}
use Rattle.marks.specs.Names.{set_tname, name_at, name_made}
use Rattle.marks.proofs.NameLaws.{bars, no_bar, no_mark}
use Rattle.marks.proofs.name.set_tname.Goals as goal
use Rattle.marks.proofs.name.set_tname.Goals.{else-name-confidence-via-then-name-confidence+else-is_not_bool, else-name-confidence-via-else-name-confidence}

pub returns-then-is_not_bool : goal.returns-then-is_not_bool
unfolding set_tname
returns-then-is_not_bool c = search rules

pub returns : goal.returns
unfolding set_tname
returns c =
    let a = c.args in
    let s : List Node = facts_in a.facts.now in
    let free : bars s a.p a.k a.name a.confidence ≡ false =
    elim c.else-name-confidence.branch [
      | else-name-confidence-via-then-name-confidence+else-is_not_bool w ↦ no_mark s a.p a.k a.name a.confidence _ (rw (w.read.ensures.0, w.read.ensures.2) at w.is_not_bool.ensures) w.if-is_not_bool.false
      | else-name-confidence-via-else-name-confidence w ↦ no_bar s a.p a.k a.name a.confidence w.if-name-confidence.false
    ] in
    record {
      grows = rw free (makes_then (λ (m : Made). name_made m a.name a.confidence) _ _ _ _ _ _ c.get_or_create_after-r.ensures c.name_at.ensures
          (λ state number e q. λ i. name_at (e i) (q i) a.name a.confidence));
      one_more = rw c.name_at.ensures.used c.get_or_create_after-r.ensures.range.3;
    }
