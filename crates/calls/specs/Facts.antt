-- "A list's facts follow from the record count and its calls' arguments alone."
use Rattle.std.specs.Prelude.{ℕ, Bool, true, cond, List, [], ◌∷◌, eqb}
use Rattle.limits.specs.Refusal.{taken}
use Rattle.facts.specs.State.{Node, root}
use Rattle.head.specs.Asked.{first_no}
use Rattle.labels.specs.Step.{step_of}
use Rattle.analyze.specs.Phases.{active_after}
use Rattle.analyze.specs.Analyze.{Machine, analyze}
use Rattle.step.specs.Questions.{step_tests}
use Rattle.calls.specs.Fits.{AreU32}
use Rattle.closing.specs.Words.{Handed, filled}
use Rattle.closing.specs.Call.{closing_tests}

-- a step or a closing, and all that it is handed beside the table and the head: "all else it is handed is its own, and
-- anything at all"
pub data Call : Type 0 where
  -- code, stack and memory, and the step's numbers: "All lent tables are u32 numbers"
  step : (bytes stack memory numbers : List ℕ) → AreU32 numbers → Call
  -- code, start pc and packed word, and the type slice
  closing : Handed → (types : List ℕ) → Call

-- what the calls so far say: the paths with their marks, in the order of their numbers, of which the seen ones are the
-- facts, and whether the decoder is active
pub record Known : Type 0 where
  pub state : List Node
  pub active : Bool

-- "At first there is path 1 alone, the root: no keys, seen, otherwise zero, the decoder active."
abbrev pub start : Known
start = record { state = root ∷ []; active = true }

-- the paths so far, with the stack and the memory of a step
abbrev pub machine_of : Known → List ℕ → List ℕ → Machine
machine_of k stack memory = record { state = k.state; stack = stack; memory = memory }

-- "The questions are decided with the paths so far as the used records". Questions 1 and 2 are not asked here: with a
-- record count of 1 to 16,384 no call after the fresh one is refused by them (`stays_sound`)
abbrev pub step_refusal : ℕ → Known → List ℕ → List ℕ → List ℕ → List ℕ → ℕ
step_refusal N k bytes stack memory x = first_no (step_tests N (machine_of k stack memory) k.active bytes x)

abbrev pub closing_refusal : ℕ → Known → Handed → List ℕ → ℕ
closing_refusal N k h types = first_no (closing_tests N k.state h types)

-- "A taken step looks its labels' path numbers up among these paths, and changes paths and decoder as said above."
abbrev pub stepped : Known → List ℕ → List ℕ → List ℕ → List ℕ → Known
stepped k bytes stack memory x = record {
  state = (analyze (machine_of k stack memory) k.active bytes (step_of x)).state;
  active = active_after k.active (step_of x);
}

-- "A closing not refused makes its fill's paths seen."
abbrev pub closed : Known → Handed → Known
closed k h = record { state = filled k.state h; active = k.active }

-- what is known after a call to a table of N records; "a refused call changes nothing"
unfoldable pub after : ℕ → Known → Call → Known
after N k (step bytes stack memory x u) =
    cond (eqb (step_refusal N k bytes stack memory x) taken) (stepped k bytes stack memory x) k
after N k (closing h types) = cond (eqb (closing_refusal N k h types) taken) (closed k h) k

-- after a list of calls
unfoldable pub after_all : ℕ → Known → List Call → Known
after_all N k [] = k
after_all N k (c ∷ cs) = after_all N (after N k c) cs

-- what a list of calls says
abbrev pub known : ℕ → List Call → Known
known N cs = after_all N start cs
