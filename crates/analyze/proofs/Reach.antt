-- The records that a step's labels name are used: those of an argument, of what is chosen of two operands.
use Prim.Native.Nat.{ℕ}
use mathlib.Core.Path.{◌≡◌, sym, subst}
use mathlib.Core.Bool.{Bool, true, false, cond}
use Rattle.std.specs.Prelude.{Option, None, Some}
use Rattle.word.specs.declared.U256.{U256}
use Rattle.labels.specs.declared.Val.{Val}
use Rattle.labels.specs.declared.Label.{Label}
use Rattle.labels.specs.declared.Label.TheVariants.{Unlabelled, CallData, Arg, IsZeroResult}
use Rattle.labels.specs.declared.Element.{Element}
use Rattle.labels.specs.declared.Step.{Step}
use Rattle.labels.specs.declared.Choice.{Choice}
use Rattle.labels.specs.Operands.{on_arg, choose}
use Rattle.operations.specs.Asks.{IsUsed}
use Rattle.analyze.specs.Ready.{LabelReaches, StepReaches, ChoiceReaches}

-- what is chosen of two operands is an argument of one of them
or_reaches : (u : ℕ) (test : Val → Bool) (l : Label) (own : U256) (other : Element) (d : Option Choice)
    → LabelReaches u l → LabelReaches u other.label → ChoiceReaches u d → ChoiceReaches u (on_arg l (λ v. cond (test v) (Some (record { val = v; own = own; other = other })) d) d)
or_reaches u test Unlabelled own other d L O D = D
or_reaches u test CallData own other d L O D = D
or_reaches u test (IsZeroResult v) own other d L O D = D
or_reaches u test (Arg v) own other d L O D = go (test v)
  where
    go : (b : Bool) → ChoiceReaches u (cond b (Some (record { val = v; own = own; other = other })) d)
    go true = (L, O)
    go false = D

pub choice_reaches : (u : ℕ) (test : Val → Bool) (a b : Element) → LabelReaches u a.label → LabelReaches u b.label
    → ChoiceReaches u (choose test a b)
unfolding choose
choice_reaches u test a b A B =
    or_reaches u test a.label a.word b _ A B (or_reaches u test b.label b.word a None B A tt)

-- what is chosen of a step's operands is one of theirs
pub step_choice : (u : ℕ) (x : Step) (test : Val → Bool) → StepReaches u x
    → ChoiceReaches u (choose test x.first x.second)
step_choice u x test R = choice_reaches u test x.first x.second R.first R.second

pub given_choice : (u : ℕ) (x : Step) (test : Val → Bool) (k : Option Choice) → k ≡ choose test x.first x.second
    → StepReaches u x → ChoiceReaches u k
given_choice u x test k e R = subst (ChoiceReaches u) (sym e) (step_choice u x test R)

pub chosen_reaches : (u : ℕ) (o : Option Choice) (k : Choice) → o ≡ Some k → ChoiceReaches u o → IsUsed u k.val.path
chosen_reaches u o k q R = (subst (ChoiceReaches u) q R).0
