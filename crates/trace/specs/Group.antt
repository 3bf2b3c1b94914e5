-- The sizes of a group: "for each step its 59 numbers, slot count, entry count, slots, entries". The printer reads by
-- these; no public call's outcome is written with them.
use Rattle.std.specs.Prelude.{ℕ, ◌+◌, ◌*◌, cond, List, Option, Some, None}
use Rattle.limits.specs.Input.{number_bytes, group_width, group_slots, group_entries, trace_slots_max, trace_entries_max}
use Rattle.limits.specs.Layout.{slot_width, entry_width}
use Rattle.trace.specs.Fits.{group_fits}
use Rattle.trace.specs.Numbers.{number_at}

-- "its 59 numbers, slot count, entry count": how many bytes stand before the slots
abbrev pub front_bytes : ℕ
front_bytes = group_width * number_bytes

-- "slot count"
abbrev pub slot_count : List ℕ → ℕ
slot_count bytes = number_at bytes (group_slots * number_bytes)

-- "entry count"
abbrev pub entry_count : List ℕ → ℕ
entry_count bytes = number_at bytes (group_entries * number_bytes)

-- how many numbers the slots have, and the entries
abbrev pub slot_numbers : List ℕ → ℕ
slot_numbers bytes = slot_count bytes * slot_width

abbrev pub entry_numbers : List ℕ → ℕ
entry_numbers bytes = entry_count bytes * entry_width

-- how many bytes the slots and entries have
abbrev pub rest_bytes : List ℕ → ℕ
rest_bytes bytes = (slot_numbers bytes + entry_numbers bytes) * number_bytes

-- how many bytes follow the first 61 numbers; none where the counts are "over these sizes"
unfoldable pub group_rest : List ℕ → Option ℕ
group_rest bytes = cond (group_fits (slot_count bytes) (entry_count bytes)) (Some (rest_bytes bytes)) None

-- room for the longest group: "slots and entries 256 each"
abbrev pub group_room : ℕ
group_room = front_bytes + (trace_slots_max * slot_width + trace_entries_max * entry_width) * number_bytes
