-- The places of the numbers of a label, a slot, an entry and a step, from 0.
use Rattle.std.specs.Prelude.{ℕ}

-- "256-bit words as eight of them"
abbrev pub word_width : ℕ
word_width = 8

-- "13 numbers: kind 0 to 3 in that order, offset, path (a record number), added value, masked (0 or 1), mask"
abbrev pub label_width : ℕ
label_width = 13

abbrev pub label_offset : ℕ
label_offset = 1

abbrev pub label_path : ℕ
label_path = 2

abbrev pub label_added : ℕ
label_added = 3

abbrev pub label_masked : ℕ
label_masked = 4

abbrev pub label_mask : ℕ
label_mask = 5

-- "A label is none, call data, argument, or zero test of an argument": its kinds, 0 for none
abbrev pub label_call_data : ℕ
label_call_data = 1

abbrev pub label_argument : ℕ
label_argument = 2

abbrev pub label_zero_test : ℕ
label_zero_test = 3

-- "Stack slot: word, label (21)."
abbrev pub slot_width : ℕ
slot_width = 21

abbrev pub slot_label : ℕ
slot_label = 8

-- "Memory entry: offset, replaced mark (0 or 1), label (15)"
abbrev pub entry_width : ℕ
entry_width = 15

abbrev pub entry_replaced : ℕ
entry_replaced = 1

abbrev pub entry_label : ℕ
entry_label = 2

-- "Step (59): op, pc after the step, two operands as slots, pick, load flag, load label."
abbrev pub step_width : ℕ
step_width = 59

abbrev pub step_op : ℕ
step_op = 0

abbrev pub step_pc : ℕ
step_pc = 1

abbrev pub step_first : ℕ
step_first = 2

abbrev pub step_second : ℕ
step_second = 23

abbrev pub step_pick : ℕ
step_pick = 44

abbrev pub step_load_flag : ℕ
step_load_flag = 45

abbrev pub step_load : ℕ
step_load = 46
