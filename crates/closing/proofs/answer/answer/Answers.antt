use Rattle.std.proofs.Common.{arith}
use Rattle.facts.proofs.States.{sound_formed}
use Rattle.closing.proofs.AnswerLaws.{answer_none, answer_over, answer_granted, entries_most, words_fit}
use Rattle.closing.proofs.answer.answer.Goals as goal

pub returns-then-is_childless-clause-result_value : goal.returns-then-is_childless-clause-result_value
returns-then-is_childless-clause-result_value c = (answer_none _ _ c.args.types.now c.is_childless.ensures c.if-is_childless.true).0

pub returns-then-is_childless-clause-types_after : goal.returns-then-is_childless-clause-types_after
returns-then-is_childless-clause-types_after c = (answer_none _ _ c.args.types.now c.is_childless.ensures c.if-is_childless.true).1

pub returns-in_default-clause-result_value : goal.returns-in_default-clause-result_value
returns-in_default-clause-result_value c =
    (answer_over _ _ c.args.types.now c.is_childless.ensures c.if-is_childless.false c.in_default.ensures.budget_value).0

pub returns-in_default-clause-types_after : goal.returns-in_default-clause-types_after
returns-in_default-clause-types_after c =
    (answer_over _ _ c.args.types.now c.is_childless.ensures c.if-is_childless.false c.in_default.ensures.budget_value).1

pub overflow_add-entries : goal.overflow_add-entries
overflow_add-entries c =
    let e = c.in-Some.ensures in
    let w = e.last_word_value in
    let h = entries_most _ _ c.args.types.now c.is_childless.ensures c.if-is_childless.false _ e.budget_value (sound_formed _ _ _ c.requires.sound) in
    omega arith

pub write_words-requires-clause-words_bound : goal.write_words-requires-clause-words_bound
write_words-requires-clause-words_bound c =
    let e = c.in-Some.ensures in
    words_fit _ _ c.args.types.now c.is_childless.ensures c.if-is_childless.false _ e.budget_value _ e.last_word_value
    (sound_formed _ _ _ c.requires.sound)

pub overflow_mul-result : goal.overflow_mul-result
overflow_mul-result c =
    let e = c.in-Some.ensures in
    let w = e.last_word_value in
    let h = entries_most _ _ c.args.types.now c.is_childless.ensures c.if-is_childless.false _ e.budget_value (sound_formed _ _ _ c.requires.sound) in
    omega arith

pub returns-clause-result_value : goal.returns-clause-result_value
returns-clause-result_value c =
    let e = c.in-Some.ensures in
    (answer_granted _ _ c.args.types.now c.is_childless.ensures c.if-is_childless.false _ e.budget_value _ _ e.last_word_value
    c.write_words.ensures.types_after c.requires.types_room_in_bounds (sound_formed _ _ _ c.requires.sound)).0

pub returns-clause-types_after : goal.returns-clause-types_after
returns-clause-types_after c =
    let e = c.in-Some.ensures in
    (answer_granted _ _ c.args.types.now c.is_childless.ensures c.if-is_childless.false _ e.budget_value _ _ e.last_word_value
    c.write_words.ensures.types_after c.requires.types_room_in_bounds (sound_formed _ _ _ c.requires.sound)).1
