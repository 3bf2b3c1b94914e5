-- What the code of a step asks for: labels whose paths are used records. In these words one function promises something
-- to another.
use Rattle.std.specs.Prelude.{ℕ, Option, None, Some}
use Rattle.labels.specs.declared.Label.{Label}
use Rattle.labels.specs.declared.Label.TheVariants.{Unlabelled, CallData, Arg, IsZeroResult}
use Rattle.labels.specs.declared.Step.{Step}
use Rattle.labels.specs.declared.Choice.{Choice}
use Rattle.operations.specs.Asks.{IsUsed, Reaches}
use Rattle.analyze.specs.declared.Plan.{Plan}
use Rattle.analyze.specs.declared.Hints.{Hints}

-- "each path of kind 2 or 3 a used record"
abbrev pub LabelReaches : ℕ → Label → Type 0
LabelReaches used Unlabelled = Unit {0}
LabelReaches used CallData = Unit {0}
LabelReaches used (Arg v) = IsUsed used v.path
LabelReaches used (IsZeroResult v) = IsUsed used v.path

-- the labels of a step
pub record StepReaches (used : ℕ) (x : Step) : Type 0 where
  pub first : LabelReaches used x.first.label
  pub second : LabelReaches used x.second.label
  pub load : LabelReaches used x.load

-- the argument that was chosen of two operands, and the other operand's label
abbrev pub ChoiceReaches : ℕ → Option Choice → Type 0
ChoiceReaches used None = Unit {0}
ChoiceReaches used (Some k) = IsUsed used k.val.path × LabelReaches used k.other.label

-- the operations of a plan
pub record PlanReaches (used : ℕ) (p : Plan) : Type 0 where
  pub first : Reaches used p.first
  pub second : Reaches used p.second
  pub third : Reaches used p.third

pub record HintsReach (used : ℕ) (h : Hints) : Type 0 where
  pub first : Reaches used h.first
  pub second : Reaches used h.second
