-- What the bytes of a group hold, and when they are a whole one: "for each step its 59 numbers, slot count, entry
-- count, slots, entries".
use Rattle.std.specs.Prelude.{ℕ, ◌+◌, ◌*◌, ◌≤◌, ◌≡◌, List, length, drop}
use Rattle.limits.specs.Input.{number_bytes, trace_slots_max, trace_entries_max}
use Rattle.limits.specs.Layout.{step_width}
use Rattle.trace.specs.Numbers.{numbers_of}
use Rattle.trace.specs.Group.{front_bytes, slot_count, entry_count, slot_numbers, entry_numbers, rest_bytes}

-- "its 59 numbers"
abbrev pub step_in : List ℕ → List ℕ
step_in bytes = numbers_of step_width bytes

-- "slots", behind the two counts
abbrev pub stack_in : List ℕ → List ℕ
stack_in bytes = numbers_of (slot_numbers bytes) (drop front_bytes bytes)

-- "entries", behind the slots
abbrev pub memory_in : List ℕ → List ℕ
memory_in bytes = numbers_of (entry_numbers bytes) (drop (front_bytes + slot_numbers bytes * number_bytes) bytes)

-- a whole group: not "short", not "over these sizes", and nothing behind its last entry
pub record IsGroup (bytes : List ℕ) : Type 0 where
  pub front : front_bytes ≤ length bytes
  -- "slots and entries 256 each"
  pub slots : slot_count bytes ≤ trace_slots_max
  pub entries : entry_count bytes ≤ trace_entries_max
  pub whole : length bytes ≡ front_bytes + rest_bytes bytes
