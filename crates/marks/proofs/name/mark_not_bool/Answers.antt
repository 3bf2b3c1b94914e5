use Rattle.std.proofs.Common.{sym, ◌∙◌, refl, List}
use Rattle.limits.specs.Fields as field
use Rattle.facts.specs.State.{Node}
use Rattle.paths.specs.Lent.{facts_in, Becomes}
use Rattle.paths.specs.Update.{update}
use Rattle.paths.proofs.Lending.{becomes_then, makes_then, stays}
use Rattle.marks.proofs.MarkLaws.{drop_seen, dropped_made, made_marked}
use Rattle.marks.proofs.name.mark_not_bool.Goals as goal
use Rattle.marks.proofs.name.mark_not_bool.Goals.{then-is_seen, else-is_seen}

pub returns : goal.returns
returns c =
    let a = c.args in
    let r = c.ensure_child-r.result in
    let b = c.ensure_child-r.new.self in
    let dropped : Becomes b c.if-is_seen.facts (drop_seen (facts_in b) r) =
    elim c.if-is_seen.branch [
      | then-is_seen w ↦ rw (w.facts-is, sym (rw (c.read.ensures.0, c.read.ensures.2) at c.is_seen.ensures) ∙ w.if-is_seen.true) w.drop_bool.ensures
      | else-is_seen w ↦ rw (w.facts-is, sym (rw (c.read.ensures.0, c.read.ensures.2) at c.is_seen.ensures) ∙ w.if-is_seen.false) (stays _ _ refl)
    ] in
    let stored = becomes_then (λ (s : List Node). update s r field.not_bool 1) _ _ _ _ dropped c.store.ensures in
    record {
      grows = rw (← made_marked (facts_in a.facts.now) a.p a.k)
          (makes_then dropped_made _ _ _ _ _ _ c.ensure_child-r.ensures stored
          (λ state number e q. λ i. update (drop_seen (e i) (q i)) (q i) field.not_bool 1));
      one_more = rw stored.used c.ensure_child-r.ensures.range.3;
    }
