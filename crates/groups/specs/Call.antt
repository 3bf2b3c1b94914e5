-- What becomes of the bytes of a group: they are no whole one, or their step is put.
use Rattle.std.specs.Prelude.{ℕ, ◌≡◌, List, Option, Some, None}
use Rattle.limits.specs.Refusal.{answer_number}
use Rattle.head.specs.declared.Head.{Head}
use Rattle.head.specs.Held.{Held, held}
use Rattle.step.specs.declared.Stepped.{Stepped}
use Rattle.step.specs.Call.{lend}
use Rattle.step.specs.Call.{Outcome as StepOutcome}
use Rattle.groups.specs.Group.{IsGroup, step_in, stack_in, memory_in}

-- what an answer says: `input refused`, or document 01's number of the step's answer, 0 for a step that is taken
pub data Verdict : Type 0 where
  input_refused : Verdict
  answered : ℕ → Verdict

abbrev pub verdict_of : Option Stepped → Verdict
verdict_of None = input_refused
verdict_of (Some s) = answered (answer_number s.answer)

-- what is held behind an answer: the head that it has, or the one from before
abbrev pub held_after : Option Stepped → Head → List ℕ → Held
held_after None head table = held head table
held_after (Some s) head table = held s.head table

-- the step call with the parts of a group: its number, and what is held behind it. The stack and the memory that it
-- leaves end with the group
pub record Put (h : Held) (code bytes : List ℕ) (number : ℕ) (h' : Held) : Type 0 where
  pub stack : List ℕ
  pub memory : List ℕ
  pub outcome :
      StepOutcome (lend h (stack_in bytes) (memory_in bytes)) code (step_in bytes) number (lend h' stack memory)

-- what is said of the bytes, and what is held behind them. (`one_outcome`: there is one outcome only.)
pub data Outcome (h : Held) (code bytes : List ℕ) (v : Verdict) (h' : Held) : Type 0 where
  -- "Input that is short, over these sizes, .. prints `input refused`"; bytes behind the last entry are no part of a
  -- group, so that with them there is no whole one; the printer never hands such over (`read_whole`). Nothing is
  -- changed
  not_group : (IsGroup bytes → ⊥) → v ≡ input_refused → h' ≡ h → Outcome h code bytes v h'
  -- "for each step its 59 numbers, slot count, entry count, slots, entries": the step call with these
  step : IsGroup bytes → (number : ℕ) → v ≡ answered number → Put h code bytes number h' → Outcome h code bytes v h'
