use Rattle.std.proofs.Common.{arith, refl, rules}
use Rattle.paths.proofs.Frame.{sound_shaped}
use Rattle.head.proofs.Asking.{admitted_sound}
use Rattle.closing.specs.Words.{hand}
use Rattle.closing.proofs.Arriving.{not_admitted}
use Rattle.closing.proofs.JudgeLaws.{long_code, short_types, no_room, room_left, sound_filled, answered}
use Rattle.closing.proofs.arrive.judge.Goals as goal

pub returns-in_err-records : goal.returns-in_err-records
returns-in_err-records c = not_admitted _ _ (hand c.args.code.now c.args.start c.args.packed) _ _ c.from_residual.ensures.1 c.in_err-records.ensures

pub returns-then-code-gt-CODE_MAX : goal.returns-then-code-gt-CODE_MAX
returns-then-code-gt-CODE_MAX c = long_code _ _ _ _ (hand c.args.code.now c.args.start c.args.packed) c.in_ok-records.ensures (omega arith)

pub returns-then-types-lt-TYPES_ROOM : goal.returns-then-types-lt-TYPES_ROOM
returns-then-types-lt-TYPES_ROOM c = short_types _ _ _ _ (hand c.args.code.now c.args.start c.args.packed) c.in_ok-records.ensures (omega arith) (omega arith)

pub invariant_of-read : goal.invariant_of-read
invariant_of-read c = record {
  shaped = sound_shaped _ _ _ (admitted_sound _ _ c.in_ok-records.ensures);
  fits = omega arith;
}

pub invariant_of-facts-clause-shaped : goal.invariant_of-facts-clause-shaped
invariant_of-facts-clause-shaped c = sound_shaped _ _ _ (admitted_sound _ _ c.in_ok-records.ensures)

pub returns-then-records-used : goal.returns-then-records-used
returns-then-records-used c =
    no_room _ _ _ _ (hand c.args.code.now c.args.start c.args.packed) c.in_ok-records.ensures (omega arith) (omega arith) _ _ c.fill_words-words.ensures.0
    c.fill_missing.ensures.0 c.if-records-used.true

pub fill-requires-clause-room : goal.fill-requires-clause-room
fill-requires-clause-room c =
    room_left _ _ _ c.args.types.now (hand c.args.code.now c.args.start c.args.packed) c.in_ok-records.ensures (omega arith) (omega arith) _ _ c.fill_words-words.ensures.0
    c.fill_missing.ensures.0 c.if-records-used.false

pub answer-requires-clause-sound : goal.answer-requires-clause-sound
answer-requires-clause-sound c =
    rw (c.read.ensures.0, c.read.ensures.1, c.read.ensures.2) (sound_filled _ _ _ c.args.types.now (hand c.args.code.now c.args.start c.args.packed) c.in_ok-records.ensures (omega arith) (omega arith) _ _ c.fill_words-words.ensures.0
    c.fill_missing.ensures.0 c.if-records-used.false _ _ c.fill.ensures.grows refl)

pub returns : goal.returns
returns c =
    answered _ _ _ _ (hand c.args.code.now c.args.start c.args.packed) c.in_ok-records.ensures (omega arith) (omega arith) _ _ c.fill_words-words.ensures.0
    c.fill_missing.ensures.0 c.if-records-used.false _ _ c.fill.ensures.grows refl _ _ _ (search rules) (rw (c.read.ensures.0, c.read.ensures.2) at c.answer.ensures.result_value)
    (rw (c.read.ensures.0, c.read.ensures.2) at c.answer.ensures.types_after)
