-- The plan of a step is proper, whatever its opcode.
use Prim.Native.Nat.{ℕ}
use mathlib.Core.Path.{◌≡◌, refl, ap, ◌∙◌}
use mathlib.Core.Bool.{Bool, true, false, ◌||◌}
use mathlib.Core.List.{List}
use lib.Dec.{eqb}
use lib.ListN.{length}
use borrow.Author.Tests.{eqb-true}
use Rattle.opcode.specs.Opcode.{ADD, MUL, SDIV, SMOD, SIGNEXTEND, LT, GT, EQ, ISZERO, AND, BYTE, SHL, SHR, CALLDATALOAD}
use Rattle.opcode.specs.Opcode.{CALLDATACOPY, MLOAD, MSTORE8}
use Rattle.opcode.specs.Lists.{listed, calls, slot_needers}
use Rattle.facts.specs.State.{Node}
use Rattle.paths.specs.Order.{Ordered}
use Rattle.labels.specs.declared.Step.{Step}
use Rattle.operations.specs.Asks.{Stores}
use Rattle.analyze.specs.declared.Plan.{Plan}
use Rattle.analyze.specs.Phases.{range_rule, active_after}
use Rattle.analyze.specs.Arms.{arm_by, arm}
use Rattle.analyze.specs.Analyze.{plan_of}
use Rattle.analyze.specs.Ready.{StepReaches, PlanReaches}
use Rattle.analyze.proofs.Proper.{StepFits, Proper, cond_has, cond_given, proper_none}
use Rattle.analyze.proofs.Loads.{proper_load, proper_add}
use Rattle.analyze.proofs.Lengths.{proper_mul, proper_shl, proper_compare}
use Rattle.analyze.proofs.Namings.{proper_call, proper_mstore8, proper_shr, proper_signed, proper_and, proper_eq}
use Rattle.analyze.proofs.Namings.{proper_is_zero, proper_sign_extend, proper_byte, proper_mload}
use Rattle.analyze.proofs.Phasing.{proper_range}

-- question 7 asks for a slot
abbrev pub NeedsSlot : ℕ → Type 0
NeedsSlot op = listed op slot_needers ≡ true

needs_slot : (op known : ℕ) → NeedsSlot known → eqb op known ≡ true → NeedsSlot op
needs_slot op known h e = ap (λ (o : ℕ). listed o slot_needers) (eqb-true op known e) ∙ h

compare_needs : (op : ℕ) → (eqb op LT || eqb op GT) ≡ true → NeedsSlot op
unfolding listed slot_needers
compare_needs op = go (eqb op LT) refl
  where
    go : (b : Bool) → eqb op LT ≡ b → (b || eqb op GT) ≡ true → NeedsSlot op
    go true e h = needs_slot op LT refl e
    go false e h = needs_slot op GT refl h

-- what the operations of a plan store is what question 2 asks for
pub record PlanStores (p : Plan) : Type 0 where
  pub first : Stores p.first
  pub second : Stores p.second
  pub third : Stores p.third

-- a plan of the step x, on a table of u used records, is proper
abbrev pub StepProper : ℕ → Step → Plan → Type 0
StepProper u x p = Proper u (StepFits x) (NeedsSlot x.op) x.pick p

module _ (s : List Node) (O : Ordered s) (x : Step) (R : StepReaches (length s) x) where
  abbrev u : ℕ
  u = length s

  abbrev P : Plan → Type 0
  P p = StepProper u x p

  proper_arm : (active : Bool) (bytes : List ℕ) → P (arm s active bytes x)
  unfolding arm_by listed slot_needers
  proper_arm active bytes =
      cond_has P (eqb op CALLDATALOAD || eqb op CALLDATACOPY) _ _
      (proper_load u O.some F S x (needs_slot op CALLDATALOAD refl) s R (λ f. f.first))
      (cond_has P (listed op calls) _ _ (proper_call u F S k x R)
      (cond_given P (eqb op ADD) _ _ (λ e. proper_add u O.some F S x s R (needs_slot op ADD refl e)) (λ e0.
      cond_given P (eqb op SHL) _ _ (λ e. proper_shl s O F S k x R (needs_slot op SHL refl e) active bytes) (λ e1.
      cond_given P (eqb op MUL) _ _ (λ e. proper_mul s O F S k x R (needs_slot op MUL refl e)) (λ e2.
      cond_given P (eqb op LT || eqb op GT) _ _ (λ e. proper_compare s O F S k x R (compare_needs op e)) (λ e3.
      cond_has P (eqb op MSTORE8) _ _ (proper_mstore8 u F S k x R)
      (cond_has P (eqb op SHR) _ _ (proper_shr u F S k x R active bytes)
      (cond_has P (eqb op SDIV || eqb op SMOD) _ _ (proper_signed u F S k x R)
      (cond_given P (eqb op AND) _ _ (λ e. proper_and u F S k x R (needs_slot op AND refl e)) (λ e4.
      cond_has P (eqb op EQ) _ _ (proper_eq u F S k x R)
      (cond_given P (eqb op ISZERO) _ _ (λ e. proper_is_zero u F S k x R bytes (needs_slot op ISZERO refl e)) (λ e5.
      cond_has P (eqb op SIGNEXTEND) _ _ (proper_sign_extend u F S k x R)
      (cond_has P (eqb op BYTE) _ _ (proper_byte u F S k x R)
      (cond_given P (eqb op MLOAD) _ _ (λ e. proper_mload u F S k x R (needs_slot op MLOAD refl e)) (λ e6.
      proper_none)))))))))))))))
    where
      op : ℕ
      op = x.op

      k : ℕ
      k = x.pick

      F : Type 0
      F = StepFits x

      S : Type 0
      S = NeedsSlot x.op

  pub plan_proper : (active : Bool) (bytes : List ℕ) → P (plan_of s active bytes x)
  unfolding plan_of
  plan_proper active bytes =
      cond_has P (range_rule active bytes x) _ _ (proper_range u (StepFits x) (NeedsSlot x.op) x.pick x R)
      (proper_arm (active_after active x) bytes)

  -- its operations name used records
  pub plan_reaches : (active : Bool) (bytes : List ℕ) → PlanReaches u (plan_of s active bytes x)
  plan_reaches active bytes =
      let p = plan_proper active bytes in
      record { first = p.first.reaches; second = p.second.reaches; third = p.third.reaches }

  -- and what they store is what question 2 asks for
  pub plan_stores : StepFits x → (active : Bool) (bytes : List ℕ) → PlanStores (plan_of s active bytes x)
  plan_stores F active bytes =
      let p = plan_proper active bytes in
      record { first = p.first.stores F; second = p.second.stores F; third = p.third.stores F }
