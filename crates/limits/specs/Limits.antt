-- The numbers of document 01, by the names that the definitions use.
use Rattle.std.specs.Prelude.{ℕ}

-- bytes of an EVM word (Yellow Paper, 9.1: "The word size of the machine (and thus size of stack items) is 256-bit")
abbrev pub word_bytes : ℕ
word_bytes = 32

-- bytes of the selector (ABI specification, "Function Selector": "The first four bytes of the call data")
abbrev pub selector_bytes : ℕ
selector_bytes = 4

-- "160 of them address"
abbrev pub address_bits : ℕ
address_bits = 160

-- "Count is 1 to 99 for an array"
abbrev pub array_count_max : ℕ
array_count_max = 99

-- "a bound of 1 to 255 inclusive"
abbrev pub range_bound_max : ℕ
range_bound_max = 255

-- "at most 8,192 codes"
abbrev pub codes_max : ℕ
codes_max = 8192

-- "has the type slice 8,192 u16 numbers or more?"
abbrev pub types_room : ℕ
types_room = 8192

-- "`fits_type_budget` starts at depth 0 with 8,192."
abbrev pub budget_max : ℕ
budget_max = 8192

-- "records of 11"
abbrev pub record_width : ℕ
record_width = 11

-- "1 to 16,384 records"
abbrev pub records_max : ℕ
records_max = 16384

-- "Kind is 0 none, 1 dynamic, 2 array."
abbrev pub kind_dynamic : ℕ
kind_dynamic = 1

abbrev pub kind_array : ℕ
kind_array = 2

-- "at most 134,217,727 for dynamic"
abbrev pub dynamic_count_max : ℕ
dynamic_count_max = 134217727

-- "Confidence is 1 to 20 with a name"
abbrev pub confidence_max : ℕ
confidence_max = 20

-- the Rust's `MAX_ARGUMENT_WORDS`
abbrev pub argument_words_max : ℕ
argument_words_max = 4096

-- "Is the code at most 65,536 bytes?"
abbrev pub code_max : ℕ
code_max = 65536

-- "whole slots and entries, at most 1,024 each"
abbrev pub slots_max : ℕ
slots_max = 1024

abbrev pub entries_max : ℕ
entries_max = 1024

-- "followed for offsets 4 to 130,047"
abbrev pub load_max : ℕ
load_max = 130047

-- demand 3: "no fact lies deeper than 64"; the Rust's `MAX_ARGUMENT_DEPTH`
abbrev pub depth_max : ℕ
depth_max = 64

-- demand 3: "nests at most 129 levels"
abbrev pub levels_max : ℕ
levels_max = 129
