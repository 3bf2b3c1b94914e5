use borrow.Author.Rules.{rules}
use borrow.Author.Tests.{tests}
use native.Mathlib.Omega.{arith}
use Rattle.std.proofs.Common.{◌≡◌, true}
use Rattle.std.proofs.lemmas.Iterator.{cases_from_all, YieldsList-from_slice}
use Rattle.facts.proofs.Zeros.{Zero, Cut, cut, all_tell, head_told, blocks_told, tail_tells}
use Rattle.facts.proofs.sound.is_zero_from.Goals as goal
use Rattle.facts.proofs.sound.is_zero_from.Goals.{then-is_zero, else-is_zero}

pub returns-then-all : goal.returns-then-all
returns-then-all c = elim c.if-is_zero.branch [
  | then-is_zero w ↦
      let parts = c.split_at.ensures in
      let each = cases_from_all _ _ _ (λ x. Zero x) (λ x. Zero x → ⊥) w.all.ensures.ran
      (YieldsList-from_slice c.as_chunks.result.0.now (cc))
      (λ x q k. search (rules, tests))
      (λ x q k. search (rules, tests)) in
      let yes : w.all.result ≡ true = cc in
      tail_tells _ _ _ 256 _ _ _ _
      (cut c.args.table.now c.args.start c.min.result _ _ _ _ _ (omega arith) parts.front parts.back c.as_chunks.ensures.front
      c.as_chunks.ensures.back)
      (omega arith) _
      (rw w.if-is_zero.true at c.is_zero.ensures)
      (rw yes at (all_tell _ _ each))
      c.is_zero-then-all.ensures
  | else-is_zero w ↦ absurd (cc)
]

pub returns-else-all : goal.returns-else-all
returns-else-all c =
    let s = c.split_at in
    let parts : Cut c.args.table.now c.args.start c.min.result 256 s.result.0.now s.result.1.now c.as_chunks.result.0.now c.as_chunks.result.1.now =
    cut _ _ _ _ _ _ _ _ (omega arith) s.ensures.front s.ensures.back c.as_chunks.ensures.front c.as_chunks.ensures.back in
    rw c.if-all.false (elim c.if-is_zero.branch [
      | then-is_zero w ↦
          let each = cases_from_all _ _ _ (λ x. Zero x) (λ x. Zero x → ⊥) w.all.ensures.ran
          (YieldsList-from_slice c.as_chunks.result.0.now (cc))
          (λ x q k. search (rules, tests))
          (λ x q k. search (rules, tests)) in
          blocks_told _ _ _ _ _ _ _ _ parts (omega arith) w.all.result (all_tell _ _ each) (cc)
      | else-is_zero w ↦ head_told _ _ _ _ _ _ _ _ parts (omega arith) c.is_zero.result c.is_zero.ensures (cc)
    ])
