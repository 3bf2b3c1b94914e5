-- What a step writes to the stack and the memory. "The top is the last slot." (decision D24)
use Rattle.std.specs.Prelude.{ℕ, zero, suc, ◌+◌, ◌-◌, ◌*◌, ◌/◌, cond, List, [], ◌∷◌, eqb, length}
use Rattle.std.proofs.lemmas.List.Edits.{sets}
use Rattle.limits.specs.Layout.{slot_width, slot_label, entry_width, entry_replaced, entry_label}
use Rattle.labels.specs.declared.Label.{Label}
use Rattle.labels.specs.Label.{label_at, label_numbers}
use Rattle.labels.specs.Operands.{is_length_of}
use Rattle.labels.specs.Step.{small_word}

-- where the top slot begins
abbrev pub top_of : List ℕ → ℕ
top_of stack = length stack - slot_width

-- `vm.stack.peek_mut()?.label = ..`
unfoldable pub with_top_label : List ℕ → Label → List ℕ
with_top_label stack l = sets stack (top_of stack + slot_label) (label_numbers l)

-- `vm.stack.peek_mut()?.data = ..`, the word being below 2^32
unfoldable pub with_top_word : List ℕ → ℕ → List ℕ
with_top_word stack n = sets stack (top_of stack) (small_word n)

-- "Pick is the number from 1 of the entry that `Memory::get_mut` finds, 0 for none." It is taken as handed in (decision
-- D19)
abbrev pub entry_of : ℕ → ℕ
entry_of pick = (pick - 1) * entry_width

-- `v.label = ..` at the entry that was picked
unfoldable pub with_pick_label : List ℕ → ℕ → Label → List ℕ
with_pick_label memory pick l = cond (eqb pick 0) memory (sets memory (entry_of pick + entry_label) (label_numbers l))

-- "replaced 1 means "its bytes became the 32-byte word 1""
unfoldable pub with_pick_one : List ℕ → ℕ → List ℕ
with_pick_one memory pick = cond (eqb pick 0) memory (sets memory (entry_of pick + entry_replaced) (1 ∷ []))

-- the word 1 in slot i, if it holds the length at that path
abbrev pub slot_one : ℕ → List ℕ → ℕ → List ℕ
slot_one path s i =
    cond (is_length_of path (label_at s (i * slot_width + slot_label))) (sets s (i * slot_width) (small_word 1)) s

-- the replaced mark of entry i, if it holds the length at that path
abbrev pub entry_one : ℕ → List ℕ → ℕ → List ℕ
entry_one path s i =
    cond (is_length_of path (label_at s (i * entry_width + entry_label)))
    (sets s (i * entry_width + entry_replaced) (1 ∷ [])) s

-- change, at the indices below n one after the other
unfoldable pub each_to : (List ℕ → ℕ → List ℕ) → ℕ → List ℕ → List ℕ
each_to change zero s = s
each_to change (suc n) s = change (each_to change n s) n

-- in all of them
abbrev pub stack_ones : ℕ → List ℕ → List ℕ
stack_ones path s = each_to (slot_one path) (length s / slot_width) s

abbrev pub memory_ones : ℕ → List ℕ → List ℕ
memory_ones path s = each_to (entry_one path) (length s / entry_width) s
