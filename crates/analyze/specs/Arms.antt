-- "then the first arm that matches". Each of the Rust's arms asks for one opcode of a few, so the arms stand here by
-- opcode, in its order (decision D17).
use Rattle.std.specs.Prelude.{ℕ, Bool, cond, ◌||◌, List, eqb}
use Rattle.opcode.specs.Opcode.{ADD, MUL, SDIV, SMOD, SIGNEXTEND, LT, GT, EQ, ISZERO, AND, BYTE, SHL, SHR, CALLDATALOAD}
use Rattle.opcode.specs.Opcode.{CALLDATACOPY, MLOAD, MSTORE8}
use Rattle.opcode.specs.Lists.{listed, calls}
use Rattle.facts.specs.State.{Node}
use Rattle.labels.specs.declared.Step.{Step}
use Rattle.analyze.specs.declared.Plan.{Plan}
use Rattle.analyze.specs.Plan.{nothing}
use Rattle.analyze.specs.Load.{load}
use Rattle.analyze.specs.Sum.{add}
use Rattle.analyze.specs.Length.{mul, shl, compare}
use Rattle.analyze.specs.Name.{call, mstore8, shr, signed, and, eq, is_zero, sign_extend, byte, mload}

-- the arm of an opcode, from the state s
unfoldable pub arm_by : ℕ → List Node → Bool → List ℕ → Step → Plan
arm_by op s active bytes x =
    cond (eqb op CALLDATALOAD || eqb op CALLDATACOPY) (load s x)
    (cond (listed op calls) (call x)
    (cond (eqb op ADD) (add s x)
    (cond (eqb op SHL) (shl s active bytes x)
    (cond (eqb op MUL) (mul s x)
    (cond (eqb op LT || eqb op GT) (compare s x)
    (cond (eqb op MSTORE8) (mstore8 x)
    (cond (eqb op SHR) (shr active bytes x)
    (cond (eqb op SDIV || eqb op SMOD) (signed x)
    (cond (eqb op AND) (and x)
    (cond (eqb op EQ) (eq x)
    (cond (eqb op ISZERO) (is_zero bytes x)
    (cond (eqb op SIGNEXTEND) (sign_extend x)
    (cond (eqb op BYTE) (byte x)
    (cond (eqb op MLOAD) (mload x)
    nothing))))))))))))))

-- the arm of the step
abbrev pub arm : List Node → Bool → List ℕ → Step → Plan
arm s active bytes x = arm_by x.op s active bytes x
