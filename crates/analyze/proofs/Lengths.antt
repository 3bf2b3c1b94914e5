-- The plans of MUL, SHL, LT and GT are proper.
use Rattle.std.specs.Prelude.{Option, Some, None}
use Rattle.std.proofs.Common.{Option, Some, None}
use Prim.Native.Nat.{ℕ, ◌+◌, ◌*◌, ◌≤◌, ◌<◌}
use mathlib.Core.Path.{◌≡◌, refl}
use mathlib.Core.Bool.{Bool, true, ◌&&◌}
use mathlib.Core.List.{List}
use native.Mathlib.Omega.{arith}
use lib.Dec.{eqb}
use lib.ListN.{length}
use borrow.Author.Tests.{eqb-false}
use Rattle.limits.specs.Codes as code
use Rattle.limits.specs.Confidences.{by_bytes, by_the_rest}
use Rattle.limits.specs.Limits.{word_bytes, confidence_max}
use Rattle.names.specs.Elementary.{is_name}
use Rattle.word.specs.Value.{value_of}
use Rattle.word.specs.Arithmetic.{power_of}
use Rattle.word.specs.Multiplier.{multiplier_of}
use Rattle.word.specs.declared.Multiplier.{Multiplier}
use Rattle.word.specs.declared.Multiplier.TheVariants.{One, Two, Array, Other}
use Rattle.word.proofs.Multipliers.{MultiplierSays, multiplier_is}
use Rattle.opcode.specs.Opcode.{LT}
use Rattle.facts.specs.State.{Node}
use Rattle.paths.specs.Order.{Ordered}
use Rattle.marks.specs.Hints.{has_range_hint}
use Rattle.labels.specs.declared.Val.{Val}
use Rattle.labels.specs.declared.Label.{Label}
use Rattle.labels.specs.declared.Step.{Step}
use Rattle.labels.specs.declared.Choice.{Choice}
use Rattle.labels.specs.Operands.{is_length, is_unmasked_length, choose}
use Rattle.operations.specs.declared.Operation.{Operation}
use Rattle.operations.specs.declared.Operation.TheVariants.{Nothing, MarkNotBool, SetArray}
use Rattle.operations.specs.Asks.{IsUsed}
use Rattle.analyze.specs.declared.OnStack.TheVariants as stack
use Rattle.analyze.specs.declared.InMemory.TheVariants as memory
use Rattle.analyze.specs.declared.Plan.{Plan}
use Rattle.analyze.specs.Plan.{one_operation, mark, with_stack}
use Rattle.analyze.specs.Length.{mark_length, name_path, multiplied, multiply, unless_range, mark_first, mul_by, mul}
use Rattle.analyze.specs.Length.{bytes_shift, bytes_named, shl_of, shl, compare_with, compare}
use Rattle.analyze.specs.Ready.{LabelReaches, ChoiceReaches, StepReaches}
use Rattle.analyze.proofs.Reach.{step_choice}
use Rattle.analyze.proofs.Given.{bytes_name, dynamic_bytes_name, string_name, BytesFit, shift_most}
use Rattle.analyze.proofs.Proper.{Allowed, Proper, cond_has, cond_given, arg_has, may_none, may_mark}
use Rattle.analyze.proofs.Proper.{proper_three, proper_one, proper_none, proper_stack, proper_memory}
use Rattle.analyze.proofs.Proper.{proper_mark, proper_mark_name}

-- a name for the path itself: its parent is a used record
may_name_path : (Fits : Type 0) (s : List Node) (path name confidence : ℕ) → Ordered s → 1 < path → path ≤ length s
    → is_name name ≡ true → 1 ≤ confidence → confidence ≤ confidence_max
    → Allowed (length s) Fits (name_path s path name confidence)
may_name_path Fits s path name confidence O p1 ps h c1 c2 =
    let up = O.lower path p1 ps in
    let below = up.1 in
    record { reaches = record { from = up.0; to = omega arith }; stores = λ f. (h, c1, c2) }

module _ (s : List Node) (O : Ordered s) (Fits Slot : Type 0) (pick : ℕ) where
  abbrev P : Plan → Type 0
  P p = Proper (length s) Fits Slot pick p

  proper_mark_length : (path : ℕ) (other : Label) (more : Operation) → IsUsed (length s) path
      → LabelReaches (length s) other → Allowed (length s) Fits more → P (mark_length path other more)
  proper_mark_length path other more U L M =
      proper_three _ _ more (record { reaches = U; stores = λ f. tt })
      (arg_has (λ o. Allowed (length s) Fits o) (length s) other (λ w. mark w) Nothing L (λ w W. may_mark w W) may_none)
      M

  module _ (path : ℕ) (other : Label) (U : IsUsed (length s) path) (L : LabelReaches (length s) other)
      (slot : Slot) where
    proper_multiplied : (factor : ℕ) (k : Multiplier) → MultiplierSays factor k → 1 < path
        → P (multiplied s path other k)
    proper_multiplied factor One h p1 =
        proper_mark_length path other _ U L
        (may_name_path Fits s path code.bytes by_bytes O p1 U.to dynamic_bytes_name (omega arith) (omega arith))
    proper_multiplied factor Two h p1 =
        proper_mark_length path other _ U L
        (may_name_path Fits s path code.string by_the_rest O p1 U.to string_name (omega arith) (omega arith))
    proper_multiplied factor (Array count) h p1 =
        let marked = mark_length path other (SetArray path count) in
        proper_memory (with_stack marked (stack.Ones path (word_bytes * count))) (memory.Ones path) tt
        (proper_stack marked _ slot
        (proper_mark_length path other (SetArray path count) U L
        (record { reaches = U; stores = λ f. (h.1, h.2) })))
    proper_multiplied factor Other h p1 = proper_mark_length path other Nothing U L may_none

    proper_multiply : (factor : ℕ) → P (multiply s path other factor)
    unfolding multiply
    proper_multiply factor =
        cond_given P (eqb path 1) _ _ (λ e. proper_mark_length path other Nothing U L may_none)
        (λ e.
        let n = eqb-false path 1 e in
        let from = U.from in
        proper_multiplied factor (multiplier_of factor) (multiplier_is factor (multiplier_of factor) refl) (omega arith))

  -- the general arm of LT, GT and MUL
  proper_mark_first : (k : Option Choice) → ChoiceReaches (length s) k → P (mark_first s k)
  unfolding unless_range
  proper_mark_first None K = proper_none
  proper_mark_first (Some k) K =
      cond_has P (has_range_hint s k.val.path k.val.offset) _ _ proper_none (proper_mark k.val K.0)

  proper_mul_by : (k general : Option Choice) → ChoiceReaches (length s) k → ChoiceReaches (length s) general → Slot
      → P (mul_by s k general)
  proper_mul_by None general K G slot = proper_mark_first general G
  proper_mul_by (Some k) general K G slot =
      proper_multiply k.val.path k.other.label K.0 K.1 slot (value_of k.other.word)

  proper_bytes_named : (v : Val) (o : Option ℕ) → IsUsed (length s) v.path → BytesFit o → P (bytes_named v o)
  proper_bytes_named v None U h = proper_mark v U
  proper_bytes_named v (Some n) U h =
      proper_mark_name v (code.fixed_bytes + n) by_the_rest U (omega arith) (omega arith) (bytes_name n h.0 h.1)

  proper_compare_with : (l : Label) (bound : ℕ) (general : Option Choice) → LabelReaches (length s) l
      → ChoiceReaches (length s) general → Slot → P (compare_with s l bound general)
  unfolding compare_with
  proper_compare_with l bound general L G slot =
      arg_has P (length s) l _ _ L
      (λ v U.
      cond_has P (is_unmasked_length v) _ _
      (proper_stack (one_operation (MarkNotBool v.path 0)) _ slot (proper_one _ (record { reaches = U; stores = λ f. tt })))
      (proper_mark_first general G))
      (proper_mark_first general G)

  module _ (x : Step) (R : StepReaches (length s) x) (slot : Slot) where
    pub proper_mul : P (mul s x)
    unfolding mul
    proper_mul =
        proper_mul_by (choose is_length x.first x.second) (choose (λ v. true) x.first x.second)
        (step_choice (length s) x is_length R) (step_choice (length s) x (λ v. true) R) slot

    pub proper_shl : (active : Bool) (bytes : List ℕ) → P (shl s active bytes x)
    unfolding shl shl_of
    proper_shl active bytes =
        let shift = value_of x.first.word in
        arg_has P (length s) x.second.label (λ v. shl_of s active bytes x v) _ R.second
        (λ v U.
        cond_has P (eqb v.path 1 && active) _ _
        (proper_bytes_named v (bytes_shift bytes x.pc shift) U (shift_most bytes x.pc shift))
        (cond_has P (is_length v) _ _ (proper_multiply v.path x.first.label U R.first slot (power_of shift))
        proper_none))
        proper_none

    pub proper_compare : P (compare s x)
    unfolding compare
    proper_compare =
        let general = choose (λ v. true) x.first x.second in
        let G = step_choice (length s) x (λ v. true) R in
        cond_has P (eqb x.op LT) _ _
        (proper_compare_with x.second.label (value_of x.first.word) general R.second G slot)
        (proper_compare_with x.first.label (value_of x.second.word) general R.first G slot)
