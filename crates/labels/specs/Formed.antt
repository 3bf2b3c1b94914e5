-- Question 5: "Are all labels and replaced marks well formed, each path of kind 2 or 3 a used record?" (decision D25)
use Rattle.std.specs.Prelude.{ℕ, ◌+◌, ◌-◌, ◌*◌, ◌/◌, Bool, cond, ◌&&◌, List, eqb, leb, length, get_or}
use Rattle.zeros.specs.Zeros.{all_to, zeros}
use Rattle.limits.specs.Between.{between}
use Rattle.limits.specs.Layout.{word_width, label_width, label_offset, label_path, label_masked, label_mask, label_call_data}
use Rattle.limits.specs.Layout.{label_zero_test, slot_width, slot_label, entry_width, entry_replaced, entry_label}

-- "masked (0 or 1)"; "an unmasked mask" has "zero in what they don't use"
abbrev pub is_mask : List ℕ → ℕ → Bool
is_mask s at =
    cond (eqb (get_or s (at + label_masked) 0) 0) (zeros s (at + label_mask) word_width)
    (eqb (get_or s (at + label_masked) 0) 1)

-- is the label at `at` well formed? "Kinds 0 and 1 .. have zero in what they don't use"; "each path of kind 2 or 3 a
-- used record"
unfoldable pub is_label : ℕ → List ℕ → ℕ → Bool
is_label used s at =
    cond (leb (get_or s at 0) label_call_data) (zeros s (at + label_offset) (label_width - label_offset))
    (leb (get_or s at 0) label_zero_test && between 1 used (get_or s (at + label_path) 0) && is_mask s at)

-- the labels of the stack's slots
abbrev pub are_slots : ℕ → List ℕ → Bool
are_slots used s = all_to (λ i. is_label used s (i * slot_width + slot_label)) (length s / slot_width)

-- the entry at `at`, with its "replaced mark (0 or 1)"
abbrev pub is_entry : ℕ → List ℕ → ℕ → Bool
is_entry used s at = leb (get_or s (at + entry_replaced) 0) 1 && is_label used s (at + entry_label)

-- the entries of the memory
abbrev pub are_entries : ℕ → List ℕ → Bool
are_entries used s = all_to (λ i. is_entry used s (i * entry_width)) (length s / entry_width)
