-- Hints cleared change no plan: at the opcodes that clear hints no arm reads the facts, and at all others the facts
-- stay.
use Prim.Native.Nat.{ℕ}
use mathlib.Core.Path.{◌≡◌, refl, sym, ap, subst}
use mathlib.Core.Bool.{Bool, true, false, cond, not, ◌&&◌, ◌||◌, false≢true}
use mathlib.Core.List.{List, [], ◌∷◌}
use lib.Dec.{eqb}
use borrow.Author.Tests.{eqb-true}
use Rattle.opcode.specs.Opcode.{EQ, REVERT}
use Rattle.opcode.specs.Lists.{listed, calls, operand_clearers}
use Rattle.facts.specs.State.{Node}
use Rattle.labels.specs.declared.Step.{Step}
use Rattle.operations.specs.declared.Operation.TheVariants.{Nothing, ClearRangeHints}
use Rattle.operations.specs.Run.{run, run_all}
use Rattle.analyze.specs.declared.Plan.{Plan}
use Rattle.analyze.specs.declared.Hints.{Hints}
use Rattle.analyze.specs.Plan.{hint_operations}
use Rattle.analyze.specs.Phases.{both, clear, compares_words, clear_operands, hints_of, range_rule, range_plan}
use Rattle.analyze.specs.Phases.{active_after}
use Rattle.analyze.specs.Arms.{arm_by}
use Rattle.analyze.specs.Analyze.{plan_of, hinted}

-- what holds of each opcode of a list holds of one that is listed
abbrev EachOf : (ℕ → Type 0) → List ℕ → Type 0
EachOf P [] = Unit {0}
EachOf P (op ∷ ops) = P op × EachOf P ops

listed_has : (P : ℕ → Type 0) (op : ℕ) (ops : List ℕ) → EachOf P ops → listed op ops ≡ true → P op
unfolding listed
listed_has P op [] E h = absurd (false≢true h)
listed_has P op (o ∷ ops) E h = go (eqb op o) refl h (listed_has P op ops E.1)
  where
    go : (b : Bool) → eqb op o ≡ b → (b || listed op ops) ≡ true → (listed op ops ≡ true → P op) → P op
    go true e w later = subst P (sym (eqb-true op o e)) E.0
    go false e w later = later w

module _ (s s' : List Node) (active : Bool) (bytes : List ℕ) (x : Step) where
  abbrev Same : ℕ → Type 0
  Same op = arm_by op s active bytes x ≡ arm_by op s' active bytes x

  same_revert : (op : ℕ) → eqb op REVERT ≡ true → Same op
  unfolding arm_by listed calls
  same_revert op e = subst Same (sym (eqb-true op REVERT e)) refl

  same_clearer : (op : ℕ) → listed op operand_clearers ≡ true → Same op
  unfolding arm_by listed calls operand_clearers
  same_clearer op h =
      listed_has Same op operand_clearers (refl, (refl, (refl, (refl, (refl, (refl, (refl, (refl, tt)))))))) h

-- the facts after the hints' operations
abbrev after : List Node → Hints → List Node
after s h = run_all s (hint_operations h)

module _ (s : List Node) (active : Bool) (bytes : List ℕ) (x : Step) where
  abbrev SameAfter : Hints → Type 0
  SameAfter h = (now : Bool) → arm_by x.op (after s h) now bytes x ≡ arm_by x.op s now bytes x

  -- where there are none
  none_same : SameAfter (both Nothing Nothing)
  unfolding run_all run
  none_same now = refl

  operands_same : SameAfter (clear_operands x)
  unfolding clear_operands
  operands_same = go (listed x.op operand_clearers) refl
    where
      some : Bool
      some = not (eqb x.op EQ) || compares_words x

      cleared : Hints
      cleared = both (clear x.first.label (compares_words x)) (clear x.second.label (compares_words x))

      go : (b : Bool) → listed x.op operand_clearers ≡ b → SameAfter (cond (b && some) cleared (both Nothing Nothing))
      go true e now = same_clearer _ s now bytes x x.op e
      go false e now = none_same now

  hints_same : SameAfter (hints_of active x)
  unfolding hints_of
  hints_same = go (eqb x.op REVERT) refl
    where
      go : (b : Bool) → eqb x.op REVERT ≡ b
          → SameAfter (cond (b && active) (both ClearRangeHints Nothing) (clear_operands x))
      go true e now = same_revert _ s now bytes x x.op e
      go false e now = operands_same now

  pub hinted_plan : plan_of (hinted s active x) active bytes x ≡ plan_of s active bytes x
  unfolding plan_of
  hinted_plan = ap (λ (p : Plan). cond (range_rule active bytes x) (range_plan x) p) (hints_same (active_after active x))
