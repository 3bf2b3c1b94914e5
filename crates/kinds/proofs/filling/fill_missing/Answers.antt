use Rattle.std.proofs.Common.{◌≡◌, ◌*◌, ◌+◌, refl, arith}
use Rattle.limits.specs.Limits.{word_bytes}
use Rattle.paths.proofs.Spotting.{before_none}
use Rattle.paths.proofs.Finds.{missing_none, missing_some}
use Rattle.kinds.proofs.FillLaws.{lacking_start, lacking_next}
use Rattle.kinds.proofs.ChainLaws.{before_up, found_before}
use Rattle.kinds.proofs.filling.fill_missing.Goals as goal
use Rattle.kinds.proofs.filling.fill_missing.Goals.{in-Some, in-None}

pub loop-i-init : goal.loop-i-init
loop-i-init c = (lacking_start _ _, before_none _ _ _ _)

pub loop-i-preserved : goal.loop-i-preserved
loop-i-preserved c =
    let I = c.loop-i.invariant in
    let a = c.match-find_at.absent in
    let key = word_bytes * c.loop-i.i in
    elim c.match-find_at.branch [
      | in-Some w ↦
          let E = rw (c.links-links.ensures.0, c.links-links.ensures.1) at w.in-Some.ensures in
          let there : w.in-Some.c ≡ 0 → ⊥ = λ z. let l = E.used.0 in absurd (omega arith) in
          let same : a ≡ c.loop-i.absent + 0 = omega arith in (
            rw same (lacking_next _ _ _ _ _ key I.0 c.loop-i-test.true refl (missing_some _ _ _ _ E.value there) (omega arith)),
            rw w.prev-is (found_before _ _ _ _ key _ _ c.args.facts.now.shaped (omega arith) E.value there (omega arith)),
          )
      | in-None w ↦ (
        rw w.absent-is (lacking_next _ _ _ _ _ key I.0 c.loop-i-test.true refl (missing_none _ _ _ 0 (rw (c.links-links.ensures.0, c.links-links.ensures.1) at w.in-None.ensures.value) refl) (omega arith)),
        rw w.prev-is (before_up _ _ _ _ _ _ (omega arith) (rw (c.links-links.ensures.0, c.links-links.ensures.1) at c.place-spot.ensures.before)),
      )
    ]
