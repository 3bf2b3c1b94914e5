-- What the parts of a step promise each other: a plan run on the table, what is written, and what was decided before.
-- No outcome is written with these.
use Rattle.std.specs.Prelude.{ℕ, ◌*◌, ◌≤◌, ◌≡◌, true, List, length, get_or, Ok, Err}
use Rattle.std.specs.declared.result.Result.{Result}
use Rattle.limits.specs.Layout.{slot_width, entry_width, step_op}
use Rattle.limits.specs.Refusal.{number_of}
use Rattle.limits.specs.declared.refusal.Refusal.{Refusal}
use Rattle.paths.specs.declared.lent.Facts.{Facts}
use Rattle.paths.specs.declared.lent.FactsMut.{FactsMut}
use Rattle.paths.specs.Lent.{facts_in, Grows}
use Rattle.labels.specs.Step.{step_of}
use Rattle.operations.specs.declared.Operation.{Operation}
use Rattle.operations.specs.Run.{run, run_all}
use Rattle.head.specs.declared.Head.{Head}
use Rattle.head.specs.Held.{Held, held, records_in, state_in}
use Rattle.head.specs.Asked.{code_fits}
use Rattle.head.specs.Admitting.{Admits}
use Rattle.analyze.specs.declared.OnStack.{OnStack}
use Rattle.analyze.specs.declared.OnStack.TheVariants as stack
use Rattle.analyze.specs.declared.InMemory.{InMemory}
use Rattle.analyze.specs.declared.InMemory.TheVariants as memory
use Rattle.analyze.specs.declared.Plan.{Plan}
use Rattle.analyze.specs.Plan.{operations, loaded_path, is_array}
use Rattle.analyze.specs.Phases.{hints_of, active_after}
use Rattle.analyze.specs.Analyze.{plan_of}
use Rattle.step.specs.declared.Ran.{Ran}
use Rattle.step.specs.declared.Planned.{Planned}
use Rattle.step.specs.Questions.{sizes_fit, labels_fit, fields_fit, slot_there, room_there}
use Rattle.step.specs.Call.{Lent, lend, machine_of, is_active, Outcome}

-- the first operation was run, and the path that it makes dynamic is known
pub record RanFirst (old new : FactsMut) (o : Operation) (path : ℕ) : Type 0 where
  pub grows : Grows old new (run (facts_in old) o)
  pub path_is : path ≡ loaded_path (facts_in old) o
  pub within : path ≤ new.used

-- a plan was run
pub record RanPlan (old new : FactsMut) (p : Plan) (r : Ran) : Type 0 where
  pub grows : Grows old new (run_all (facts_in old) (operations p))
  pub path : r.path ≡ loaded_path (facts_in old) p.first
  pub array : r.array ≡ is_array (run_all (facts_in old) (operations p)) r.path

-- the facts of a lent table, as what goes along with a call
abbrev pub held_facts : Facts → ℕ → Held
held_facts f active = held (record { used = f.used; active = active }) f.table.now

abbrev pub lent : Facts → ℕ → List ℕ → List ℕ → Lent
lent f active stack memory = lend (held_facts f active) stack memory

-- which have passed questions 1 and 2
abbrev pub IsAdmitted : Facts → ℕ → Type 0
IsAdmitted f active = Admits (held_facts f active) f.records

-- the head that goes along after a call
abbrev pub head_after : Head → Result Head Refusal → Head
head_after head (Ok after) = after
head_after head (Err refusal) = head

-- the stack has a slot for what is written
abbrev pub StackFits : OnStack → List ℕ → Type 0
StackFits stack.Keep s = Unit {0}
StackFits (stack.Word n) s = slot_width ≤ length s
StackFits (stack.Label l) s = slot_width ≤ length s
StackFits (stack.WordLabel n l) s = slot_width ≤ length s
StackFits (stack.Loaded offset) s = slot_width ≤ length s
StackFits (stack.Ones marked word) s = slot_width ≤ length s

-- and the memory the entry that is picked
abbrev pub MemoryFits : InMemory → List ℕ → Type 0
MemoryFits memory.Keep s = Unit {0}
MemoryFits (memory.Label pick l) s = pick * entry_width ≤ length s
MemoryFits (memory.Loaded pick offset) s = pick * entry_width ≤ length s
MemoryFits (memory.Ones marked) s = Unit {0}

-- a step that has passed questions 1 to 7, with n records
pub record Passed (n : ℕ) (l : Lent) (bytes x : List ℕ) : Type 0 where
  pub admitted : Admits l.held n
  pub code : code_fits bytes ≡ true
  pub sizes : sizes_fit l.stack l.memory x ≡ true
  pub labels : labels_fit l.held.head.used l.stack l.memory x ≡ true
  pub fields : fields_fit l.memory x ≡ true
  pub slot : slot_there l.stack (get_or x step_op 0) ≡ true

-- one that has passed 8 too, and its plan, made of the state before the hints are cleared: these change no plan
-- (`hinted_plan`)
pub record Accepts (n : ℕ) (l : Lent) (bytes x : List ℕ) (p : Planned) : Type 0 where
  pub passed : Passed n l bytes x
  pub room : room_there (records_in l.held) (machine_of l) (is_active l) bytes x ≡ true
  pub hints : p.hints ≡ hints_of (is_active l) (step_of x)
  pub plan : p.plan ≡ plan_of (state_in l.held) (is_active l) bytes (step_of x)
  pub active : p.active ≡ active_after (is_active l) (step_of x)

-- what was decided before anything is written
abbrev pub Decides : ℕ → Lent → List ℕ → List ℕ → Result Planned Refusal → Type 0
Decides n l bytes x (Err r) = Outcome l bytes x (number_of r) l
Decides n l bytes x (Ok p) = Accepts n l bytes x p
