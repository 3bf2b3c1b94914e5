-- The phases before the arms: the hints' operations are allowed, and the range rule's plan is proper.
use Prim.Native.Nat.{ℕ, ◌+◌}
use mathlib.Core.Path.{refl}
use mathlib.Core.Bool.{Bool, not, ◌&&◌, ◌||◌}
use native.Mathlib.Omega.{arith}
use lib.Dec.{eqb}
use Rattle.std.specs.Prelude.{Option, None, Some}
use Rattle.limits.specs.Codes as code
use Rattle.limits.specs.Confidences.{by_range}
use Rattle.opcode.specs.Opcode.{EQ, REVERT}
use Rattle.opcode.specs.Lists.{listed, operand_clearers}
use Rattle.labels.specs.declared.Label.{Label}
use Rattle.labels.specs.declared.Label.TheVariants.{Unlabelled, CallData, Arg, IsZeroResult}
use Rattle.labels.specs.declared.Step.{Step}
use Rattle.labels.specs.Operands.{is_unlabelled}
use Rattle.operations.specs.declared.Operation.{Operation}
use Rattle.operations.specs.declared.Operation.TheVariants.{Nothing, ClearRangeHint, ClearRangeHints}
use Rattle.operations.specs.declared.Operation.TheVariants.{MarkNotBool, InsertNotBool, GetOrCreate}
use Rattle.operations.specs.declared.Operation.TheVariants.{SetTname, SetDynamic, SetArray}
use Rattle.operations.specs.Asks.{IsUsed, Reaches, Stores}
use Rattle.operations.proofs.Clears.{Clears}
use Rattle.analyze.specs.declared.Comparison.{Comparison}
use Rattle.analyze.specs.declared.Hints.{Hints}
use Rattle.analyze.specs.Phases.{clear, compares_words, clear_operands, hints_of, comparison_of, on_comparison}
use Rattle.analyze.specs.Phases.{name_range, range_plan}
use Rattle.analyze.specs.Plan.{nothing}
use Rattle.analyze.specs.Ready.{LabelReaches, StepReaches, HintsReach}
use Rattle.analyze.proofs.Given.{uint_name}
use Rattle.analyze.proofs.Proper.{Proper, cond_has, arg_has, may_none, may_name, proper_three, proper_none}

-- a hint's operation clears at most
pub record HintsClear (h : Hints) : Type 0 where
  pub first : Clears h.first
  pub second : Clears h.second

clear_clears : (l : Label) (block : Bool) → Clears (clear l block)
clear_clears Unlabelled block = tt
clear_clears CallData block = tt
clear_clears (Arg v) block = tt
clear_clears (IsZeroResult v) block = tt

pub hints_clear : (active : Bool) (x : Step) → HintsClear (hints_of active x)
unfolding hints_of clear_operands
hints_clear active x =
    cond_has HintsClear (eqb x.op REVERT && active) _ _ (record { first = tt; second = tt })
    (cond_has HintsClear (listed x.op operand_clearers && (not (eqb x.op EQ) || compares_words x)) _ _
    (record {
      first = clear_clears x.first.label (compares_words x);
      second = clear_clears x.second.label (compares_words x);
    })
    (record { first = tt; second = tt }))

-- and so it stores nothing that question 2 could refuse
pub clears_stores : (o : Operation) → Clears o → Stores o
clears_stores Nothing C = tt
clears_stores (ClearRangeHint p k block) C = tt
clears_stores ClearRangeHints C = tt
clears_stores (MarkNotBool p k) C = tt
clears_stores (InsertNotBool p k) C = tt
clears_stores (GetOrCreate p k) C = tt
clears_stores (SetTname p k name confidence) C = absurd C
clears_stores (SetDynamic p k count) C = absurd C
clears_stores (SetArray r count) C = absurd C

module _ (u : ℕ) where
  clear_reaches : (l : Label) (block : Bool) → LabelReaches u l → Reaches u (clear l block)
  clear_reaches l block L = arg_has (Reaches u) u l _ Nothing L (λ v U. U) tt

  pub hints_reach : (active : Bool) (x : Step) → StepReaches u x → HintsReach u (hints_of active x)
  unfolding hints_of clear_operands
  hints_reach active x R =
      cond_has (HintsReach u) (eqb x.op REVERT && active) _ _ (record { first = tt; second = tt })
      (cond_has (HintsReach u) (listed x.op operand_clearers && (not (eqb x.op EQ) || compares_words x)) _ _
      (record {
        first = clear_reaches x.first.label (compares_words x) R.first;
        second = clear_reaches x.second.label (compares_words x) R.second;
      })
      (record { first = tt; second = tt }))

  -- what a comparison compares is an argument of an operand
  abbrev ComparisonReaches : Option Comparison → Type 0
  ComparisonReaches None = Unit {0}
  ComparisonReaches (Some c) = IsUsed u c.val.path

  compared_reaches : (x : Step) → StepReaches u x → ComparisonReaches (comparison_of x)
  unfolding comparison_of
  compared_reaches x R =
      cond_has ComparisonReaches (is_unlabelled x.second.label) _ _
      (arg_has ComparisonReaches u x.first.label _ None R.first (λ v U. U) tt)
      (cond_has ComparisonReaches (is_unlabelled x.first.label) _ _
      (arg_has ComparisonReaches u x.second.label _ None R.second (λ v U. U) tt) tt)

  module _ (Fits Slot : Type 0) (pick : ℕ) where
    proper_ranged : (k : Option Comparison) → ComparisonReaches k → Proper u Fits Slot pick (on_comparison k name_range nothing)
    proper_ranged None K = proper_none
    proper_ranged (Some c) K =
        proper_three _ _ Nothing
        (may_name c.val (code.uint + 8) by_range K (uint_name 8 (omega arith) (omega arith) refl) (omega arith)
        (omega arith))
        (record { reaches = K; stores = λ f. tt }) may_none

    pub proper_range : (x : Step) → StepReaches u x → Proper u Fits Slot pick (range_plan x)
    unfolding range_plan
    proper_range x R = proper_ranged (comparison_of x) (compared_reaches x R)
