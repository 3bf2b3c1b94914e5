-- "Here code is at most 24,576 bytes, slots and entries 256 each"; "Input that is .. over these sizes, has a packed
-- flag above 1 .. prints `input refused`". In these words one function promises another; no outcome is written with
-- them.
use Rattle.std.specs.Prelude.{ℕ, Bool, ◌&&◌, leb}
use Rattle.limits.specs.Input.{trace_code_max, trace_slots_max, trace_entries_max}

-- the code's length and the packed flag
abbrev pub header_fits : ℕ → ℕ → Bool
header_fits length flag = leb length trace_code_max && leb flag 1

-- the numbers of slots and of entries
abbrev pub group_fits : ℕ → ℕ → Bool
group_fits slots entries = leb slots trace_slots_max && leb entries trace_entries_max
