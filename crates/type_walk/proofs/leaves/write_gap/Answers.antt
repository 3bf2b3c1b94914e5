use Rattle.std.proofs.Common.{arith, refl, ap, ◌≡◌, ◌∙◌, ◌+◌, ◌-◌, ℕ}
use Rattle.std.proofs.Math.ListN.{drop, replicate, length-replicate}
use Rattle.std.proofs.lemmas.List.{length-take-le, length-drop}
use borrow.Rule.Slice.PartMut.{put_mid}
use Rattle.spell.proofs.Stores.{stored_mid}
use Rattle.type_walk.specs.Plan.{word_code}
use Rattle.type_walk.proofs.leaves.write_gap.Goals as goal

pub returns : goal.returns
returns c =
    let h = c.requires in
    let n : ℕ = c.args.to + c.args.words - c.args.to in
    let k : n ≡ c.args.words = omega arith in
    let d = length-drop c.args.to c.args.types.now in
    let l = length-take-le n (drop c.args.to c.args.types.now) (omega arith) ∙ k in (
      ap (put_mid c.args.to n c.args.types.now) (c.fill.ensures.after (λ y same. same) ∙ ap (λ (m : ℕ). replicate m word_code) l)
          ∙ stored_mid _ _ _ _ (let e = length-replicate c.args.words word_code in omega arith) h,
      refl,
    )
