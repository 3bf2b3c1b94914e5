-- The least length of call data that the code lets pass, and the words in it: `direct_min_calldata_words`.
use Rattle.std.specs.Prelude.{ℕ, ◌+◌, ◌-◌, ◌/◌, ◌%◌, Bool, cond, ◌&&◌, List, eqb, leb, Option, Some, None}
use Rattle.std.specs.Option.{option_and_then}
use Rattle.limits.specs.Limits.{selector_bytes, word_bytes}
use Rattle.opcode.specs.Opcode.{CALLDATASIZE, JUMPDEST, LT}
use Rattle.code.specs.Bytes.{is_at, past_byte, push_size_at, number_at}

-- whole words behind the selector: length is 4 plus 32 times words. A length below 4, or one that is no such sum, gives
-- nothing (decision D27)
unfoldable pub words_in : ℕ → Option ℕ
words_in size =
    cond (leb selector_bytes size && eqb ((size - selector_bytes) % word_bytes) 0)
    (Some ((size - selector_bytes) / word_bytes))
    None

abbrev pub words_of : Option ℕ → Option ℕ
words_of size = option_and_then words_in size

-- CALLDATASIZE, LT at the place
unfoldable pub compares_size : List ℕ → ℕ → Bool
compares_size code at = is_at code at CALLDATASIZE && is_at code (at + 1) LT

-- PUSH1 to PUSH4 of n bytes, CALLDATASIZE, LT: the length is the number pushed
abbrev pub direct_of : List ℕ → ℕ → ℕ → Option ℕ
direct_of code at n = cond (compares_size code (at + 1 + n)) (Some (number_at code (at + 1) n)) None

abbrev pub direct_from : List ℕ → ℕ → Option ℕ
direct_from code at = option_and_then (direct_of code at) (push_size_at code at)

-- after one JUMPDEST, if it stands at pc
unfoldable pub direct_size : List ℕ → ℕ → Option ℕ
direct_size code pc = direct_from code (past_byte code pc JUMPDEST)

unfoldable pub direct_min_calldata_words : List ℕ → ℕ → Option ℕ
direct_min_calldata_words code pc = words_of (direct_size code pc)
