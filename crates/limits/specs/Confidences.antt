-- "Confidences: BYTE 4; AND and double ISZERO 5; range 6; SDIV, SMOD 8; bytes 10; MSTORE8 12; the rest 20."
use Rattle.std.specs.Prelude.{ℕ}

abbrev pub by_byte : ℕ
by_byte = 4

-- AND and double ISZERO
abbrev pub by_and_or_is_zero : ℕ
by_and_or_is_zero = 5

abbrev pub by_range : ℕ
by_range = 6

-- SDIV and SMOD
abbrev pub by_sdiv_or_smod : ℕ
by_sdiv_or_smod = 8

-- a name that is bytes
abbrev pub by_bytes : ℕ
by_bytes = 10

abbrev pub by_mstore8 : ℕ
by_mstore8 = 12

-- the rest
abbrev pub by_the_rest : ℕ
by_the_rest = 20
