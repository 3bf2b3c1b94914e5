-- What is so of every plan of a step: each operation names used records and stores what question 2 asks for, the stack
-- is written only where there is a slot, and the memory at the step's pick. How plans that are so go together.
use Prim.Native.Nat.{ℕ, ◌≤◌, ◌<◌, ◌^◌}
use mathlib.Core.Path.{◌≡◌, refl}
use mathlib.Core.Bool.{Bool, true, false, cond}
use mathlib.Core.Logic.{◌⊎◌, inl, inr, ⊎_elim}
use lib.Dec.{eqb}
use borrow.Author.Tests.{eqb-false}
use Rattle.limits.specs.Codes as code
use Rattle.limits.specs.Limits.{confidence_max}
use Rattle.names.specs.Elementary.{is_name}
use Rattle.labels.specs.declared.Val.{Val}
use Rattle.labels.specs.declared.Label.{Label}
use Rattle.labels.specs.declared.Label.TheVariants.{Unlabelled, CallData, Arg, IsZeroResult}
use Rattle.labels.specs.declared.Step.{Step}
use Rattle.labels.specs.Operands.{on_arg}
use Rattle.operations.specs.declared.Operation.{Operation}
use Rattle.operations.specs.declared.Operation.TheVariants.{Nothing}
use Rattle.operations.specs.Asks.{IsUsed, Reaches, Stores}
use Rattle.analyze.specs.declared.OnStack.{OnStack}
use Rattle.analyze.specs.declared.OnStack.TheVariants as stack
use Rattle.analyze.specs.declared.InMemory.{InMemory}
use Rattle.analyze.specs.declared.InMemory.TheVariants as memory
use Rattle.analyze.specs.declared.Plan.{Plan}
use Rattle.analyze.specs.Plan.{nothing, one_operation, three_operations, with_stack, with_memory, mark, name_as}
use Rattle.analyze.specs.Plan.{mark_and_name}
use Rattle.analyze.specs.Ready.{LabelReaches}
use Rattle.analyze.proofs.Given.{NoneOrName}

-- an argument's added value is a number of 32 bits
abbrev pub LabelFits : Label → Type 0
LabelFits Unlabelled = Unit {0}
LabelFits CallData = Unit {0}
LabelFits (Arg v) = v.add_val < 2 ^ 32
LabelFits (IsZeroResult v) = Unit {0}

-- that of the first operand, which a labelled load turns into a count
pub record StepFits (x : Step) : Type 0 where
  pub first : LabelFits x.first.label

-- the entry that is written is the step's pick
abbrev pub Picks : ℕ → InMemory → Type 0
Picks pick memory.Keep = Unit {0}
Picks pick (memory.Label p l) = p ≡ pick
Picks pick (memory.Loaded p offset) = p ≡ pick
Picks pick (memory.Ones path) = Unit {0}

-- an operation that may be run; that its numbers fit is asked only for what it stores
pub record Allowed (u : ℕ) (Fits : Type 0) (o : Operation) : Type 0 where
  pub reaches : Reaches u o
  pub stores : Fits → Stores o

-- a plan of such, that writes to the stack only where Slot holds, and to the memory at pick
pub record Proper (u : ℕ) (Fits Slot : Type 0) (pick : ℕ) (p : Plan) : Type 0 where
  pub first : Allowed u Fits p.first
  pub second : Allowed u Fits p.second
  pub third : Allowed u Fits p.third
  pub stack : (p.stack ≡ stack.Keep) ⊎ Slot
  pub memory : Picks pick p.memory

-- what holds in each case holds
module _ {A : Type 0} (P : A → Type 0) where
  pub cond_has : (b : Bool) (x y : A) → P x → P y → P (cond b x y)
  cond_has true x y p q = p
  cond_has false x y p q = q

  -- with what the test says
  pub cond_given : (b : Bool) (x y : A) → (b ≡ true → P x) → (b ≡ false → P y) → P (cond b x y)
  cond_given true x y p q = p refl
  cond_given false x y p q = q refl

  pub arg_has : (u : ℕ) (l : Label) (f : Val → A) (d : A) → LabelReaches u l
      → ((v : Val) → IsUsed u v.path → P (f v)) → P d → P (on_arg l f d)
  arg_has u Unlabelled f d R h p = p
  arg_has u CallData f d R h p = p
  arg_has u (Arg v) f d R h p = h v R
  arg_has u (IsZeroResult v) f d R h p = p

module _ {u : ℕ} {Fits : Type 0} where
  pub may_none : Allowed u Fits Nothing
  may_none = record { reaches = tt; stores = λ f. tt }

  pub may_mark : (v : Val) → IsUsed u v.path → Allowed u Fits (mark v)
  may_mark v R = record { reaches = R; stores = λ f. tt }

  pub may_name : (v : Val) (name confidence : ℕ) → IsUsed u v.path → is_name name ≡ true → 1 ≤ confidence
      → confidence ≤ confidence_max → Allowed u Fits (name_as v name confidence)
  may_name v name confidence R h c1 c2 = record { reaches = R; stores = λ f. (h, c1, c2) }

module _ {u : ℕ} {Fits Slot : Type 0} {pick : ℕ} where
  pub proper_three : (a b c : Operation) → Allowed u Fits a → Allowed u Fits b → Allowed u Fits c
      → Proper u Fits Slot pick (three_operations a b c)
  proper_three a b c A B C = record { first = A; second = B; third = C; stack = inl refl; memory = tt }

  pub proper_one : (a : Operation) → Allowed u Fits a → Proper u Fits Slot pick (one_operation a)
  proper_one a A = proper_three a Nothing Nothing A may_none may_none

  pub proper_none : Proper u Fits Slot pick nothing
  proper_none = proper_one Nothing may_none

  pub proper_stack : (p : Plan) (w : OnStack) → Slot → Proper u Fits Slot pick p
      → Proper u Fits Slot pick (with_stack p w)
  proper_stack p w slot P =
      record { first = P.first; second = P.second; third = P.third; stack = inr slot; memory = P.memory }

  pub proper_memory : (p : Plan) (w : InMemory) → Picks pick w → Proper u Fits Slot pick p
      → Proper u Fits Slot pick (with_memory p w)
  proper_memory p w h P =
      record { first = P.first; second = P.second; third = P.third; stack = P.stack; memory = h }

  -- of what a label says
  pub proper_mark : (v : Val) → IsUsed u v.path → Proper u Fits Slot pick (one_operation (mark v))
  proper_mark v R = proper_one (mark v) (may_mark v R)

  module _ (v : Val) (name confidence : ℕ) (R : IsUsed u v.path) (c1 : 1 ≤ confidence)
      (c2 : confidence ≤ confidence_max) where
    pub proper_name : is_name name ≡ true → Proper u Fits Slot pick (one_operation (name_as v name confidence))
    proper_name h = proper_one (name_as v name confidence) (may_name v name confidence R h c1 c2)

    pub proper_mark_name : is_name name ≡ true → Proper u Fits Slot pick (mark_and_name v name confidence)
    proper_mark_name h =
        proper_three (mark v) (name_as v name confidence) Nothing (may_mark v R)
        (may_name v name confidence R h c1 c2) may_none

  -- by whether there is a name
  pub unless_none : (name : ℕ) (none some : Plan) → NoneOrName name → Proper u Fits Slot pick none
      → (is_name name ≡ true → Proper u Fits Slot pick some)
      → Proper u Fits Slot pick (cond (eqb name code.no_name) none some)
  unless_none name none some given N S =
      cond_given (Proper u Fits Slot pick) (eqb name code.no_name) none some (λ e. N)
      (λ e.
      ⊎_elim (λ (z : name ≡ code.no_name). absurd (eqb-false name code.no_name e z))
      (λ (h : is_name name ≡ true). S h) given)
