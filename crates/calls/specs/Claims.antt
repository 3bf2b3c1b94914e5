-- What demand 3's sentences (specs/Demand3.antt) say of an answer, of a list and of a call in a list of calls.
use Rattle.std.specs.Prelude.{ℕ, ◌-◌, ◌*◌, ◌≤◌, ◌≡◌, true, ◌↔◌, List, ◌++◌, length, drop}
use Rattle.limits.specs.Limits.{budget_max, word_bytes, records_max}
use Rattle.types.specs.Tree.{count}
use Rattle.types.specs.Codes.{all_codes}
use Rattle.facts.specs.State.{Node}
use Rattle.head.specs.Held.{Held}
use Rattle.list.specs.Budget.{spend}
use Rattle.list.specs.Types.{list_of}
use Rattle.head.specs.Fresh.{opened}
use Rattle.closing.specs.Words.{Handed, filled}
use Rattle.step.specs.Call as step_call
use Rattle.closing.specs.Answer.{Verdict, refused, none, over, is_granted}
use Rattle.closing.specs.Call.{Outcome}
use Rattle.calls.specs.Facts.{Call, known}
use Rattle.calls.specs.Run.{Run}
use Rattle.calls.specs.Terms.{SomeArgument, NoneDeeper, SumFits, WellListed}

-- what a fresh call that is taken with N records has left: N is 1 to 16,384, and these are the head and the table from
-- which a list of calls starts, "from a fresh table"
pub record FirstOf (N : ℕ) (t : Held) : Type 0 where
  pub some : 1 ≤ N
  pub most : N ≤ records_max
  pub leaves : t ≡ opened N

-- an answer judged by the facts, the seen nodes of the state s: it "grants a list exactly when some argument is known,
-- no fact lies deeper than 64, and the sum over all facts of last word plus one is at most 8,192. Otherwise it answers
-- none if no argument is known, and over if one is."
pub record JudgedBy (s : List Node) (v : Verdict) : Type 0 where
  pub grants : (is_granted v ≡ true) ↔ (SomeArgument s × NoneDeeper s × SumFits s)
  pub none_known : (v ≡ none) ↔ (SomeArgument s → ⊥)
  pub over_known : (v ≡ over) ↔ (SomeArgument s × (NoneDeeper s × SumFits s → ⊥))

-- a step in a list of calls, after those before it: what these left it, and its number and what it left itself, as its
-- contract says
pub record StepIn (N : ℕ) (before : List Call) (bytes stack memory x : List ℕ) (number : ℕ) (left : Held) : Type 0 where
  pub handed : Held
  pub ran : Run (opened N) before handed
  pub stack' : List ℕ
  pub memory' : List ℕ
  pub outcome :
      step_call.Outcome (step_call.lend handed stack memory) bytes x number (step_call.lend left stack' memory')

-- a closing in a list of calls, after those before it, in the same way
pub record ClosingIn (N : ℕ) (before : List Call) (h : Handed) (types : List ℕ) (answer : Verdict) (left : Held)
    (types' : List ℕ) : Type 0 where
  pub handed : Held
  pub ran : Run (opened N) before handed
  pub outcome : Outcome handed types h answer left types'

-- "the facts that document 01 works out from the calls alone, its own fill included": they are the seen nodes of this
abbrev pub closing_state : ℕ → List Call → Handed → List Node
closing_state N before h = filled (known N before).state h

-- "not refused"
abbrev pub NotRefused : Verdict → Type 0
NotRefused v = (n : ℕ) → v ≡ refused n → ⊥

-- "A granted list, also one from a sound table got in another way, is the one that document 01 gives for its facts,
-- reports as budget left 8,192 less that sum, is made of ABI types only, has no more type parts than the sum, and nests
-- at most 129 levels." s is the state of the closing's table, its own fill included
pub record GrantedList (s : List Node) (types : List ℕ) (entries left head : ℕ) (types' : List ℕ) : Type 0 where
  pub list : types' ≡ all_codes (list_of s) ++ drop (length (all_codes (list_of s))) types
  pub counted : entries ≡ count (list_of s)
  pub sum_fits : SumFits s
  pub budget_left : left ≡ budget_max - spend s
  pub head_is : head ≡ word_bytes * entries
  pub listed : WellListed s (list_of s)
