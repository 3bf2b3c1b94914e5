-- What document 01 and `analyze` ask of an opcode, as their lists.
use Rattle.std.specs.Prelude.{ℕ, ◌-◌, Bool, false, cond, ◌||◌, List, [], ◌∷◌, eqb, Option, Some, None}
use Rattle.limits.specs.Between.{between}
use Rattle.opcode.specs.Opcode.{ADD, MUL, SUB, DIV, MOD, EXP, LT, GT, EQ, ISZERO, AND, SHL, KECCAK256, BALANCE}
use Rattle.opcode.specs.Opcode.{CALLDATALOAD, EXTCODESIZE, EXTCODECOPY, EXTCODEHASH, MLOAD, SLOAD, SSTORE, JUMPI}
use Rattle.opcode.specs.Opcode.{TLOAD, TSTORE, PUSH0, PUSH1, PUSH4, LOG0, LOG1, LOG2, LOG3, LOG4, CREATE, CALL}
use Rattle.opcode.specs.Opcode.{CALLCODE, DELEGATECALL, CREATE2, STATICCALL, SELFDESTRUCT}

-- does the opcode stand in the list?
unfoldable pub listed : ℕ → List ℕ → Bool
listed op [] = false
listed op (x ∷ xs) = eqb op x || listed op xs

-- the opcodes at which `analyze` first looks at the operands' range hints. It clears them, at EQ only where both
-- operands are arguments. REVERT, at which it clears all hints while the decoder is active, is apart
unfoldable pub operand_clearers : List ℕ
operand_clearers = DIV ∷ MOD ∷ SUB ∷ EXP ∷ EQ ∷ ISZERO ∷ JUMPI ∷ SLOAD ∷ []

-- "Each of SLOAD, SSTORE, TLOAD, TSTORE, KECCAK256, BALANCE, EXTCODESIZE, EXTCODEHASH, EXTCODECOPY, CALL, CALLCODE,
-- DELEGATECALL, STATICCALL, CREATE, CREATE2, SELFDESTRUCT and LOG0 to LOG4 ends the decoder phase."
unfoldable pub decoder_enders : List ℕ
decoder_enders =
    SLOAD ∷ SSTORE ∷ TLOAD ∷ TSTORE ∷ KECCAK256 ∷ BALANCE ∷ EXTCODESIZE ∷ EXTCODEHASH ∷ EXTCODECOPY ∷ CALL ∷ CALLCODE
    ∷ DELEGATECALL ∷ STATICCALL ∷ CREATE ∷ CREATE2 ∷ SELFDESTRUCT ∷ LOG0 ∷ LOG1 ∷ LOG2 ∷ LOG3 ∷ LOG4 ∷ []

-- the opcodes whose first operand is named an address
unfoldable pub calls : List ℕ
calls = CALL ∷ CALLCODE ∷ DELEGATECALL ∷ STATICCALL ∷ []

-- question 7: "Has the stack a slot, if op is CALLDATALOAD, ADD, MUL, SHL, LT, GT, AND, ISZERO or MLOAD?"
unfoldable pub slot_needers : List ℕ
slot_needers = CALLDATALOAD ∷ ADD ∷ MUL ∷ SHL ∷ LT ∷ GT ∷ AND ∷ ISZERO ∷ MLOAD ∷ []

-- "PUSH1 to PUSH4 in guards": how many bytes the opcode pushes, if it is one of the four
unfoldable pub push_size : ℕ → Option ℕ
push_size op = cond (between PUSH1 PUSH4 op) (Some (op - PUSH0)) None
