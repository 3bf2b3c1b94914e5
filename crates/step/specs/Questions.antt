-- Questions 3 to 8, in document 01's words.
use Rattle.std.specs.Prelude.{ℕ, ◌+◌, ◌/◌, ◌%◌, ◌^◌, Bool, cond, not, ◌&&◌, ◌||◌, List, [], ◌∷◌, eqb, leb, ltb, length, get_or}
use Rattle.limits.specs.Limits.{slots_max, entries_max}
use Rattle.limits.specs.Layout.{slot_width, slot_label, entry_width, step_width, step_op, step_first, step_second, step_pick}
use Rattle.limits.specs.Layout.{step_load_flag, step_load}
use Rattle.limits.specs.declared.refusal.Refusal.TheVariants.{LongCode, BrokenSizes, BrokenLabels, BrokenFields}
use Rattle.limits.specs.declared.refusal.Refusal.TheVariants.{NoSlot, NoRoom}
use Rattle.word.specs.Numbers.{word_at}
use Rattle.opcode.specs.Opcode.{CALLDATACOPY}
use Rattle.opcode.specs.Lists.{listed, slot_needers}
use Rattle.labels.specs.Formed.{is_label, are_slots, are_entries}
use Rattle.labels.specs.Step.{step_of}
use Rattle.head.specs.Asked.{Test, test, code_fits}
use Rattle.analyze.specs.Analyze.{Machine, analyze}

-- whole slots or entries of that width, at most so many
abbrev pub are_whole : List ℕ → ℕ → ℕ → Bool
are_whole s width most = eqb (length s % width) 0 && leb (length s / width) most

-- 4. "Are stack and memory whole slots and entries, at most 1,024 each, and the step 59 numbers?"
unfoldable pub sizes_fit : List ℕ → List ℕ → List ℕ → Bool
sizes_fit stack memory x =
    are_whole stack slot_width slots_max && are_whole memory entry_width entries_max && eqb (length x) step_width

-- 5. "Are all labels and replaced marks well formed, each path of kind 2 or 3 a used record?"
unfoldable pub labels_fit : ℕ → List ℕ → List ℕ → List ℕ → Bool
labels_fit used stack memory x =
    are_slots used stack && are_entries used memory
    && is_label used x (step_first + slot_label) && is_label used x (step_second + slot_label) && is_label used x step_load

-- "the load flag 0 or 1 with a load label of nonzero kind exactly at 1"
abbrev pub load_fits : ℕ → ℕ → Bool
load_fits flag kind = cond (eqb flag 0) (eqb kind 0) (eqb flag 1 && not (eqb kind 0))

-- "for CALLDATACOPY the second word below 2^32"
abbrev pub copy_fits : ℕ → ℕ → Bool
copy_fits op word = not (eqb op CALLDATACOPY) || ltb word (2 ^ 32)

-- 6. "Is op at most 255, pick at most the entry count, .."
unfoldable pub fields_fit : List ℕ → List ℕ → Bool
fields_fit memory x =
    leb (get_or x step_op 0) 255 && leb (get_or x step_pick 0) (length memory / entry_width)
    && load_fits (get_or x step_load_flag 0) (get_or x step_load 0) && copy_fits (get_or x step_op 0) (word_at x step_second)

-- 7. "Has the stack a slot, if op is CALLDATALOAD, ADD, MUL, SHL, LT, GT, AND, ISZERO or MLOAD?"
unfoldable pub slot_there : List ℕ → ℕ → Bool
slot_there stack op = not (listed op slot_needers) || leb slot_width (length stack)

-- 8. "Are enough records free for those the step adds?" m is what is lent, the state of the used records in it
-- (decision D37)
unfoldable pub room_there : ℕ → Machine → Bool → List ℕ → List ℕ → Bool
room_there N m active bytes x = leb (length (analyze m active bytes (step_of x)).state) N

-- 3 to 8, "taken in this order", of a table of N records
unfoldable pub step_tests : ℕ → Machine → Bool → List ℕ → List ℕ → List Test
step_tests N m active bytes x =
    test (code_fits bytes) LongCode
    ∷ test (sizes_fit m.stack m.memory x) BrokenSizes
    ∷ test (labels_fit (length m.state) m.stack m.memory x) BrokenLabels
    ∷ test (fields_fit m.memory x) BrokenFields
    ∷ test (slot_there m.stack (get_or x step_op 0)) NoSlot
    ∷ test (room_there N m active bytes x) NoRoom
    ∷ []
