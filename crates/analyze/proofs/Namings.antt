-- The plans of the arms that name an argument are proper.
use Prim.Native.Nat.{ℕ, ◌+◌, ◌*◌}
use mathlib.Core.Path.{refl}
use mathlib.Core.Bool.{Bool, true, ◌&&◌}
use mathlib.Core.List.{List}
use native.Mathlib.Omega.{arith}
use lib.Dec.{ltb}
use borrow.Author.Tests.{ltb-true}
use Rattle.std.specs.Prelude.{Option, Some, None}
use Rattle.limits.specs.Codes as code
use Rattle.limits.specs.Confidences.{by_byte, by_and_or_is_zero, by_sdiv_or_smod, by_mstore8, by_the_rest}
use Rattle.limits.specs.Limits.{word_bytes}
use Rattle.word.specs.Value.{value_of}
use Rattle.mask.specs.Mask.{and_mask_to_type}
use Rattle.code.specs.Guard.{guard_failure_pc, is_division_check}
use Rattle.word.specs.declared.U256.{U256}
use Rattle.labels.specs.declared.Val.{Val}
use Rattle.labels.specs.declared.Label.{Label}
use Rattle.labels.specs.declared.Label.TheVariants.{Unlabelled, CallData, Arg, IsZeroResult}
use Rattle.labels.specs.declared.Step.{Step}
use Rattle.labels.specs.declared.Choice.{Choice}
use Rattle.labels.specs.Operands.{choose, is_unmasked, same_arg}
use Rattle.operations.specs.Asks.{IsUsed}
use Rattle.analyze.specs.declared.OnStack.TheVariants as stack
use Rattle.analyze.specs.declared.Plan.{Plan}
use Rattle.analyze.specs.Plan.{nothing, one_operation, mark, name_as, mark_and_name, with_stack}
use Rattle.analyze.specs.Length.{is_place}
use Rattle.analyze.specs.Name.{call, mstore8, width_name, name_if, shr, signed_first, signed, with_mask, and_first}
use Rattle.analyze.specs.Name.{and, eq_masked, eq_both, eq, zero_tested, is_zero, sign_extend, byte, mload}
use Rattle.analyze.specs.Ready.{LabelReaches, ChoiceReaches, StepReaches}
use Rattle.analyze.proofs.Reach.{step_choice}
use Rattle.analyze.proofs.Given.{NoneOrName, uint_name, bytes_name, bool_name, address_name, mask_name}
use Rattle.analyze.proofs.Given.{extended_name, width_name_lem}
use Rattle.analyze.proofs.Proper.{Proper, cond_has, cond_given, arg_has, proper_none, proper_stack, proper_mark}
use Rattle.analyze.proofs.Proper.{proper_name, proper_mark_name, unless_none}

module _ (u : ℕ) (Fits Slot : Type 0) (pick : ℕ) where
  abbrev P : Plan → Type 0
  P p = Proper u Fits Slot pick p

  -- a name, if it is one
  proper_name_if : (v : Val) (name : ℕ) → IsUsed u v.path → NoneOrName name → P (name_if v name by_the_rest)
  proper_name_if v name R given =
      unless_none name nothing (one_operation (name_as v name by_the_rest)) given proper_none
      (proper_name v name by_the_rest R (omega arith) (omega arith))

  proper_eq_masked : (v w : Val) (mask : Option U256) → IsUsed u v.path → P (eq_masked v w mask)
  unfolding eq_masked
  proper_eq_masked v w None R = proper_none
  proper_eq_masked v w (Some m) R =
      cond_has P (same_arg v w) _ _ (proper_name_if v (and_mask_to_type (value_of m)) R (mask_name (value_of m))) proper_none

  proper_eq_both : (v w : Val) → IsUsed u v.path → IsUsed u w.path → P (eq_both v w)
  unfolding eq_both
  proper_eq_both v w U W =
      cond_has P (is_unmasked v.and_mask) _ _ (proper_eq_masked v w w.and_mask U)
      (cond_has P (is_unmasked w.and_mask) _ _ (proper_eq_masked w v v.and_mask W) proper_none)

  proper_and_first : (k : Option Choice) → ChoiceReaches u k → Slot → P (and_first k)
  proper_and_first None K slot = proper_none
  proper_and_first (Some k) K slot =
      let v = k.val in
      let mask = k.other.word in
      let name = and_mask_to_type (value_of mask) in
      unless_none name (one_operation (mark v)) (with_stack (mark_and_name v name by_and_or_is_zero) (stack.Label (with_mask v mask)))
      (mask_name (value_of mask)) (proper_mark v K.0)
      (λ h.
      proper_stack (mark_and_name v name by_and_or_is_zero) _ slot
      (proper_mark_name v name by_and_or_is_zero K.0 (omega arith) (omega arith) h))

  proper_signed_first : (k : Option Choice) → ChoiceReaches u k → P (signed_first k)
  proper_signed_first None K = proper_none
  proper_signed_first (Some k) K =
      proper_mark_name k.val (code.int + 256) by_sdiv_or_smod K.0 (omega arith) (omega arith) (extended_name 31 (omega arith))

  proper_zero_tested : (bytes : List ℕ) (pc : ℕ) (l : Label) → LabelReaches u l → Slot → P (zero_tested bytes pc l)
  proper_zero_tested bytes pc Unlabelled L slot = proper_none
  proper_zero_tested bytes pc CallData L slot = proper_none
  proper_zero_tested bytes pc (Arg v) L slot = proper_stack nothing _ slot proper_none
  proper_zero_tested bytes pc (IsZeroResult v) L slot =
      cond_has P (is_division_check bytes pc) _ _ proper_none
      (proper_name v code.bool by_and_or_is_zero L (omega arith) (omega arith) bool_name)

  module _ (x : Step) (R : StepReaches u x) where
    pub proper_call : P (call x)
    unfolding call
    proper_call =
        arg_has P u x.first.label _ _ R.first
        (λ v U. proper_mark_name v code.address by_the_rest U (omega arith) (omega arith) address_name) proper_none

    pub proper_mstore8 : P (mstore8 x)
    unfolding mstore8
    proper_mstore8 =
        arg_has P u x.first.label _ _ R.first
        (λ v U.
        proper_mark_name v (code.uint + 8) by_mstore8 U (omega arith) (omega arith)
        (uint_name 8 (omega arith) (omega arith) refl))
        proper_none

    pub proper_shr : (active : Bool) (bytes : List ℕ) → P (shr active bytes x)
    unfolding shr
    proper_shr active bytes =
        arg_has P u x.second.label _ _ R.second
        (λ v U.
        cond_has P (active && is_place (guard_failure_pc bytes x.pc true)) _ _
        (proper_name_if v (width_name (value_of x.first.word)) U (width_name_lem (value_of x.first.word))) proper_none)
        proper_none

    pub proper_signed : P (signed x)
    unfolding signed
    proper_signed = proper_signed_first (choose (λ v. true) x.first x.second) (step_choice u x (λ v. true) R)

    pub proper_and : Slot → P (and x)
    unfolding and
    proper_and = proper_and_first (choose (λ v. is_unmasked v.and_mask) x.first x.second) (step_choice u x (λ v. is_unmasked v.and_mask) R)

    pub proper_eq : P (eq x)
    unfolding eq
    proper_eq =
        arg_has P u x.first.label _ _ R.first
        (λ v U. arg_has P u x.second.label _ _ R.second (λ w W. proper_eq_both v w U W) proper_none) proper_none

    pub proper_is_zero : (bytes : List ℕ) → Slot → P (is_zero bytes x)
    unfolding is_zero
    proper_is_zero bytes = proper_zero_tested bytes x.pc x.first.label R.first

    pub proper_sign_extend : P (sign_extend x)
    unfolding sign_extend
    proper_sign_extend =
        let n = value_of x.first.word in
        arg_has P u x.second.label _ _ R.second
        (λ v U.
        cond_given P (ltb n word_bytes) _ _
        (λ e.
        proper_name v (code.int + (n + 1) * 8) by_the_rest U (omega arith) (omega arith)
        (extended_name n (ltb-true n word_bytes e)))
        (λ e. proper_none))
        proper_none

    pub proper_byte : P (byte x)
    unfolding byte
    proper_byte =
        arg_has P u x.second.label _ _ R.second
        (λ v U.
        proper_name v (code.fixed_bytes + 32) by_byte U (omega arith) (omega arith)
        (bytes_name 32 (omega arith) (omega arith)))
        proper_none

    pub proper_mload : Slot → P (mload x)
    unfolding mload
    proper_mload slot =
        arg_has P u x.load _ _ R.load (λ v U. proper_stack nothing _ slot proper_none) proper_none
