-- The Rust's `analyze`: "Order is `analyze`'s: hints cleared, range rule, decoder phase, then the first arm that
-- matches."
use Rattle.std.specs.Prelude.{ℕ, Bool, cond, List}
use Rattle.facts.specs.State.{Node}
use Rattle.labels.specs.declared.Step.{Step}
use Rattle.operations.specs.Run.{run_all}
use Rattle.analyze.specs.declared.Plan.{Plan}
use Rattle.analyze.specs.Plan.{hint_operations, operations, loaded_path, is_array, write_stack, write_memory}
use Rattle.analyze.specs.Phases.{hints_of, range_rule, range_plan, active_after}
use Rattle.analyze.specs.Arms.{arm}

-- the state, and the numbers of the stack and the memory. The decoder's phase stands beside it
pub record Machine : Type 0 where
  pub state : List Node
  pub stack : List ℕ
  pub memory : List ℕ

-- what a step does behind its first phase, from the state s after that: the range rule, which then stops, or the arm
unfoldable pub plan_of : List Node → Bool → List ℕ → Step → Plan
plan_of s active bytes x = cond (range_rule active bytes x) (range_plan x) (arm s (active_after active x) bytes x)

-- the state after the first phase
abbrev pub hinted : List Node → Bool → Step → List Node
hinted s active x = run_all s (hint_operations (hints_of active x))

-- a plan run on the state s, and what it writes
unfoldable pub run_plan : List Node → Plan → List ℕ → List ℕ → Machine
run_plan s p stack memory =
    let after = run_all s (operations p) in
    let path = loaded_path s p.first in
    record {
      state = after;
      stack = write_stack p.stack path (is_array after path) stack;
      memory = write_memory p.memory path (is_array after path) memory;
    }

-- what the step leaves of state, stack and memory; the decoder's phase after it is `active_after`
unfoldable pub analyze : Machine → Bool → List ℕ → Step → Machine
analyze m active bytes x =
    let s = hinted m.state active x in
    run_plan s (plan_of s active bytes x) m.stack m.memory
