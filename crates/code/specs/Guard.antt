-- `guard_failure_pc`, the empty revert behind it, and the check for zero before a division.
use Rattle.std.specs.Prelude.{ℕ, ◌+◌, Bool, false, cond, not, ◌&&◌, List, drop, Option, Some, None}
use Rattle.std.specs.Bool.{beq}
use Rattle.opcode.specs.Opcode.{DIV, ISZERO, JUMPDEST}
use Rattle.code.specs.declared.Jump.{Jump}
use Rattle.code.specs.Bytes.{is_at, past_byte}
use Rattle.code.specs.Jump.{jump_at}
use Rattle.code.specs.Revert.{is_empty_revert}

-- where a jump leaves control: behind it, or at its target
abbrev pub failure_place : Option Jump → Bool → Option ℕ
failure_place None falls = None
failure_place (Some jump) falls = Some (cond falls jump.next jump.target)

-- the Rust's `guard_failure_pc`: where control goes if the guard fails. After value < bound the jump is taken by values
-- in range, so control goes to the place behind it; after value > bound by values out of range, so it goes to the
-- target. ISZERO before the push turns the two
unfoldable pub guard_failure_pc : List ℕ → ℕ → Bool → Option ℕ
guard_failure_pc code pc less_than =
    failure_place (jump_at code (past_byte code pc ISZERO)) (not (beq less_than (is_at code pc ISZERO)))

-- "Empty revert: `guard_failure_pc` names a place, or there is none; read the code from that place on"
abbrev pub revert_at : List ℕ → Option ℕ → Bool
revert_at code None = false
revert_at code (Some place) = is_empty_revert (drop place code)

unfoldable pub is_empty_revert_guard : List ℕ → ℕ → Bool → Bool
is_empty_revert_guard code pc less_than = revert_at code (guard_failure_pc code pc less_than)

-- behind a double ISZERO: a jump to JUMPDEST, DIV (`mod.rs`: "it's not bool in that case")
abbrev pub leads_to_division : List ℕ → Option Jump → Bool
leads_to_division code None = false
leads_to_division code (Some jump) = is_at code jump.target JUMPDEST && is_at code (jump.target + 1) DIV

unfoldable pub is_division_check : List ℕ → ℕ → Bool
is_division_check code pc = leads_to_division code (jump_at code pc)
