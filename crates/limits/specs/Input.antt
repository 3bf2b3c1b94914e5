-- "Lines of the trace printer": the sizes of its input, and the places of its numbers, from 0.
use Rattle.std.specs.Prelude.{ℕ}

-- "Here code is at most 24,576 bytes, slots and entries 256 each; the table has 1,480 records."
abbrev pub trace_code_max : ℕ
trace_code_max = 24576

abbrev pub trace_slots_max : ℕ
trace_slots_max = 256

abbrev pub trace_entries_max : ℕ
trace_entries_max = 256

abbrev pub trace_records : ℕ
trace_records = 1480

-- "u32 little-endian": bytes of a number
abbrev pub number_bytes : ℕ
number_bytes = 4

-- "code length, start pc, packed flag, packed word (eight numbers, present at flag 0 too)"
abbrev pub header_width : ℕ
header_width = 11

abbrev pub header_length : ℕ
header_length = 0

abbrev pub header_start : ℕ
header_start = 1

abbrev pub header_flag : ℕ
header_flag = 2

abbrev pub header_packed : ℕ
header_packed = 3

-- "for each step its 59 numbers, slot count, entry count": what stands before the slots
abbrev pub group_width : ℕ
group_width = 61

abbrev pub group_slots : ℕ
group_slots = 59

abbrev pub group_entries : ℕ
group_entries = 60
