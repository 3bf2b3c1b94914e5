-- Operands and steps: "Step (59): op, pc after the step, two operands as slots, pick, load flag, load label." The two
-- operands are the first two of the Rust's `StepResult::args`, whose order is not always the stack's: CALL's first is
-- the address, CALLDATACOPY's the source. MSTORE8's first is the place.
use Rattle.std.specs.Prelude.{ℕ, ◌+◌, List, [], ◌∷◌, get_or}
use Rattle.limits.specs.Layout.{slot_label, step_op, step_pc, step_first, step_second, step_pick, step_load}
use Rattle.word.specs.Numbers.{limbs_at}
use Rattle.labels.specs.declared.Element.{Element}
use Rattle.labels.specs.declared.Step.{Step}
use Rattle.labels.specs.Label.{label_at}

-- "Stack slot: word, label (21)."
abbrev pub element_at : List ℕ → ℕ → Element
element_at s at = record { word = limbs_at s at; label = label_at s (at + slot_label) }

-- the step that 59 numbers say. A load flag of 0 goes with a load label of kind 0 (question 6), so the label alone
-- tells
unfoldable pub step_of : List ℕ → Step
step_of s = record {
  op = get_or s step_op 0;
  pc = get_or s step_pc 0;
  first = element_at s step_first;
  second = element_at s step_second;
  pick = get_or s step_pick 0;
  load = label_at s step_load;
}

-- a word below 2^32 as eight numbers
abbrev pub small_word : ℕ → List ℕ
small_word n = 0 ∷ 0 ∷ 0 ∷ 0 ∷ 0 ∷ 0 ∷ 0 ∷ n ∷ []
