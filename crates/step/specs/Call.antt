-- "A step arrives": what the call answers and leaves, for any numbers at all.
use Rattle.std.specs.Prelude.{ℕ, ◌≡◌, Bool, cond, List, eqb}
use Rattle.limits.specs.Refusal.{taken}
use Rattle.head.specs.Held.{Held, records_in, state_in, holding}
use Rattle.head.specs.Asked.{Test, Questions, FirstNo, after_sound}
use Rattle.labels.specs.Step.{step_of}
use Rattle.analyze.specs.Phases.{active_after}
use Rattle.analyze.specs.Analyze.{Machine, analyze}
use Rattle.step.specs.Questions.{step_tests}

-- what a step is lent: what goes along with every call, and its stack and memory
pub record Lent : Type 0 where
  pub held : Held
  pub stack : List ℕ
  pub memory : List ℕ

abbrev pub lend : Held → List ℕ → List ℕ → Lent
lend held stack memory = record { held = held; stack = stack; memory = memory }

-- the state of the used records, with the stack and the memory
abbrev pub machine_of : Lent → Machine
machine_of l = record { state = state_in l.held; stack = l.stack; memory = l.memory }

-- is the decoder active?
abbrev pub is_active : Lent → Bool
is_active l = eqb l.held.head.active 1

-- what a machine leaves in a table of N records: the lent table is then the table of its state
abbrev pub left_by : ℕ → Bool → Machine → Lent
left_by N active m = lend (holding N (cond active 1 0) m.state) m.stack m.memory

-- the effect of a step that is taken
unfoldable pub effect : Lent → List ℕ → List ℕ → Lent
effect l bytes x =
    left_by (records_in l.held) (active_after (is_active l) (step_of x))
    (analyze (machine_of l) (is_active l) bytes (step_of x))

-- 3 to 8, of what is lent
abbrev pub tests_of : Lent → List ℕ → List ℕ → List Test
tests_of l bytes x = step_tests (records_in l.held) (machine_of l) (is_active l) bytes x

-- "The questions are taken in this order": 1 and 2, and then 3 to 8
abbrev pub questions : Lent → List ℕ → List ℕ → Questions
questions l bytes x = after_sound l.held (tests_of l bytes x)

-- the number of the answer, and what is left: "the first "no" gives its number, and everything is left unchanged".
-- (`one_outcome`: there is one outcome only.)
pub record Outcome (l : Lent) (bytes x : List ℕ) (number : ℕ) (l' : Lent) : Type 0 where
  pub asked : FirstNo (questions l bytes x) number
  pub leaves : l' ≡ cond (eqb number taken) (effect l bytes x) l
