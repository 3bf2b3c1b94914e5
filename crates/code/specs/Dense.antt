-- The least length in a packed word: `dense_min_calldata_words`.
use Rattle.std.specs.Prelude.{ℕ, ◌+◌, ◌-◌, ◌*◌, ◌^◌, Bool, cond, ◌&&◌, List, eqb, Option, Some, None}
use Rattle.std.specs.Option.{option_and_then}
use Rattle.std.specs.Int.Bits.{bit_and}
use Rattle.limits.specs.Between.{between}
use Rattle.opcode.specs.Opcode.{AND, DUP1, JUMPDEST}
use Rattle.code.specs.Bytes.{is_at, past_byte, push_size_at, number_at}
use Rattle.code.specs.Length.{compares_size, words_of}

-- the mask of n bytes: ff but for the last, which is fe (decision D29)
unfoldable pub size_mask : ℕ → ℕ
size_mask n = 2 ^ (8 * n) - 2

-- DUP1, a push of n bytes from 1 to 3, AND, CALLDATASIZE, LT
unfoldable pub dense_shape : List ℕ → ℕ → ℕ → Bool
dense_shape code at n =
    between 1 3 n && is_at code at DUP1 && is_at code (at + 2 + n) AND && compares_size code (at + 3 + n)

-- where the mask is pushed: the length is the packed word AND the mask
abbrev pub dense_of : List ℕ → ℕ → ℕ → ℕ → Option ℕ
dense_of code packed at n =
    cond (dense_shape code at n && eqb (number_at code (at + 2) n) (size_mask n))
    (Some (bit_and packed (size_mask n)))
    None

abbrev pub dense_from : List ℕ → ℕ → ℕ → Option ℕ
dense_from code packed at = option_and_then (dense_of code packed at) (push_size_at code (at + 1))

-- after one JUMPDEST, if it stands at pc
unfoldable pub dense_size : List ℕ → ℕ → ℕ → Option ℕ
dense_size code pc packed = dense_from code packed (past_byte code pc JUMPDEST)

unfoldable pub dense_min_calldata_words : List ℕ → ℕ → ℕ → Option ℕ
dense_min_calldata_words code pc packed = words_of (dense_size code pc packed)
