use mathlib.Core.Path.{sym, ◌∙◌}
use mathlib.Core.Bool.{true≢false}
use Rattle.facts.proofs.Whole.{sound_chained, sound_root, sound_records, sound_zero, parts_sound}
use Rattle.facts.proofs.sound.is_sound.Goals as goal

pub returns-then-not-is_root : goal.returns-then-not-is_root
returns-then-not-is_root c S =
    true≢false (sym (sound_root _ _ _ S) ∙ sym c.is_root.ensures ∙ c.if-not-is_root.true)

pub returns-then-not-are_chained_records : goal.returns-then-not-are_chained_records
returns-then-not-are_chained_records c S =
    c.if-not-are_chained_records.ensures (sound_chained _ _ _ S, sound_records _ _ _ S)

pub returns-then-not-is_zero_from : goal.returns-then-not-is_zero_from
returns-then-not-is_zero_from c S = c.if-not-is_zero_from.ensures (sound_zero _ _ _ S)

pub returns : goal.returns
returns c =
    let chained = c.if-not-are_chained_records.ensures in
    parts_sound _ _ _ c.requires.is c.if-used-lt1.false c.if-n-used.false
    (sym c.is_root.ensures ∙ c.if-not-is_root.false)
    chained.0
    chained.1
    c.if-not-is_zero_from.ensures
