use Rattle.std.proofs.Common.{arith, refl, sym, ◌∙◌}
use Rattle.paths.specs.Lent.{facts_of}
use Rattle.type_walk.proofs.WriteLaws.{words_codes, writing_start, writing_passed, before_fits, writing_before, kid_fits, inner_call, writing_next}
use Rattle.type_walk.proofs.WriteLaws.{led_none, above_none, above_kid, last_fits, writing_last, steps, fewer, next_kid, no_steps}
use Rattle.type_walk.proofs.write.+write_words.Goals as goal
use Rattle.type_walk.proofs.write.+write_words.Goals.{then-next-word, then-ahead-ne0, else-ahead-ne0, else-next-word}

pub overflow_add-end : goal.overflow_add-end
overflow_add-end t c =
    let h = words_codes (facts_of c.args.facts.now) c.args.r c.args.start c.args.words in
    let l = c.requires.words_bound in
    let s = c.requires.le_r.2 in
    omega arith

pub loop-child-init : goal.loop-child-init
loop-child-init t c =
    writing_start _ _ _ _ _ _ _ _ _ (record {
      sound = c.requires.sound;
      from = c.requires.le_r.0;
      used = c.requires.le_r.1;
      room = c.requires.words_bound;
      long = c.requires.types_room_in_bounds;
    })
    c.child-child.ensures

pub write_gap-requires : goal.write_gap-requires
write_gap-requires t c =
    let W = c.loop-types.invariant.0 in let s = steps W c.loop-types.invariant.1 refl in
    last_fits W (above_kid W s c.key-key.ensures c.if-end-word.true)

pub returns-then-end-word-clause-types_after : goal.returns-then-end-word-clause-types_after
returns-then-end-word-clause-types_after t c =
    let W = c.loop-types.invariant.0 in let s = steps W c.loop-types.invariant.1 refl in
    (writing_last W (above_kid W s c.key-key.ensures c.if-end-word.true) c.write_gap.ensures.0 c.write_gap.ensures.1).0

pub returns-then-end-word-clause-value : goal.returns-then-end-word-clause-value
returns-then-end-word-clause-value t c =
    let W = c.loop-types.invariant.0 in let s = steps W c.loop-types.invariant.1 refl in
    (writing_last W (above_kid W s c.key-key.ensures c.if-end-word.true) c.write_gap.ensures.0 c.write_gap.ensures.1).1

pub write_gap-to-requires : goal.write_gap-to-requires
write_gap-to-requires t c =
    let W = c.loop-types.invariant.0 in let s = steps W c.loop-types.invariant.1 refl in
    before_fits W s c.key-key.ensures c.if-end-word.false c.if-next-word.true

pub write_ahead-ahead-requires-clause-c_bound : goal.write_ahead-ahead-requires-clause-c_bound
write_ahead-ahead-requires-clause-c_bound t c =
    let W = c.loop-types.invariant.0 in let s = steps W c.loop-types.invariant.1 refl in
    let T = writing_before W s c.key-key.ensures c.if-end-word.false c.if-next-word.true
    c.write_gap-to.ensures.0 c.write_gap-to.ensures.1 in
    kid_fits T.0 s c.if-end-word.false T.1

pub write_words-to-requires : goal.write_words-to-requires
write_words-to-requires t c =
    let W = c.loop-types.invariant.0 in let K = c.loop-types.invariant.1 in let s = steps W K refl in
    let T = writing_before W s c.key-key.ensures c.if-end-word.false c.if-next-word.true
    c.write_gap-to.ensures.0 c.write_gap-to.ensures.1 in
    let C = inner_call T.0 s c.if-end-word.false T.1 c.write_ahead-ahead.ensures in
    let g = c.decreases in
    let a = K.above in
    let b = C.used in
    (omega arith, (C.sound, ((C.from, C.used, c.write_ahead-ahead.ensures.start), (C.room, C.long))))

pub loop-child-smaller : goal.loop-child-smaller
loop-child-smaller t c =
    let I = c.loop-types.invariant in
    let l = fewer I.0 I.1 c.next-child.ensures in
    omega (arith, I.2)

pub loop-child-preserved : goal.loop-child-preserved
loop-child-preserved t c =
    let W = c.loop-types.invariant.0 in let K = c.loop-types.invariant.1 in let s = steps W K c.next-child.ensures in (
      elim c.if-next-word.branch [
        | then-next-word w ↦
            let T = writing_before W s c.key-key.ensures c.if-end-word.false w.if-next-word.true
            w.write_gap-to.ensures.0 w.write_gap-to.ensures.1 in
            elim w.if-ahead-ne0.branch [
              | then-ahead-ne0 x ↦
                  writing_next T.0 s c.if-end-word.false T.1 w.write_ahead-ahead.ensures
                  (w.types-is ∙ x.types-is ∙ x.write_words-to.ensures.types_after) (w.to-is ∙ x.to-is ∙ x.write_words-to.ensures.value) w.next-is
              | else-ahead-ne0 x ↦
                  let n = led_none w.write_ahead-ahead.ensures x.if-ahead-ne0.false in
                  writing_next T.0 s c.if-end-word.false T.1 w.write_ahead-ahead.ensures
                  (w.types-is ∙ x.types-is ∙ n.0) (w.to-is ∙ x.to-is ∙ n.1) w.next-is
            ]
        | else-next-word w ↦ writing_passed W s c.key-key.ensures w.if-next-word.false w.types-is w.to-is w.next-is
      ],
      next_kid W K c.next-child.ensures,
    )

pub loop-types-smaller : goal.loop-types-smaller
loop-types-smaller t c =
    let I = c.loop-types.invariant in
    fewer I.0 I.1 (sym c.if-child-follow.false ∙ c.next-child.ensures)

pub loop-types-preserved : goal.loop-types-preserved
loop-types-preserved t c =
    let W = c.loop-types.invariant.0 in let K = c.loop-types.invariant.1 in
    let d = sym c.if-child-follow.false ∙ c.next-child.ensures in let s = steps W K d in
    let l = loop-types-smaller t c in (
      elim c.if-next-word.branch [
        | then-next-word w ↦
            let T = writing_before W s c.key-key.ensures c.if-end-word.false w.if-next-word.true
            w.write_gap-to.ensures.0 w.write_gap-to.ensures.1 in
            elim w.if-ahead-ne0.branch [
              | then-ahead-ne0 x ↦
                  writing_next T.0 s c.if-end-word.false T.1 w.write_ahead-ahead.ensures
                  (w.types-is ∙ x.types-is ∙ x.write_words-to.ensures.types_after) (w.to-is ∙ x.to-is ∙ x.write_words-to.ensures.value) w.next-is
              | else-ahead-ne0 x ↦
                  let n = led_none w.write_ahead-ahead.ensures x.if-ahead-ne0.false in
                  writing_next T.0 s c.if-end-word.false T.1 w.write_ahead-ahead.ensures
                  (w.types-is ∙ x.types-is ∙ n.0) (w.to-is ∙ x.to-is ∙ n.1) w.next-is
            ]
        | else-next-word w ↦ writing_passed W s c.key-key.ensures w.if-next-word.false w.types-is w.to-is w.next-is
      ],
      next_kid W K d (λ z. absurd (omega arith)),
      omega (arith, c.loop-types.invariant.2),
    )

pub write_gap-requires-2 : goal.write_gap-requires-2
write_gap-requires-2 t c =
    let W = c.loop-child.invariant.0 in
    last_fits W (above_none W _ (no_steps W c.loop-child-test.false))

pub returns-clause-types_after : goal.returns-clause-types_after
returns-clause-types_after t c =
    let W = c.loop-child.invariant.0 in
    (writing_last W (above_none W _ (no_steps W c.loop-child-test.false)) c.write_gap-2.ensures.0 c.write_gap-2.ensures.1).0

pub returns-clause-value : goal.returns-clause-value
returns-clause-value t c =
    let W = c.loop-child.invariant.0 in
    (writing_last W (above_none W _ (no_steps W c.loop-child-test.false)) c.write_gap-2.ensures.0 c.write_gap-2.ensures.1).1
