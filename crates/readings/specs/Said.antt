-- What a bench reading says, and what the definitions say in the same words.
use Rattle.std.specs.Prelude.{ℕ, ◌-◌, cond, List, [], ◌∷◌, eqb, length, replicate}
use Rattle.limits.specs.Input.{trace_records}
use Rattle.limits.specs.Limits.{types_room}
use Rattle.types.specs.Tree.{AbiTypes, count}
use Rattle.facts.specs.State.{Node, node_of}
use Rattle.head.specs.Asked.{first_no}
use Rattle.list.specs.Types.{list_of}
use Rattle.std.specs.Prelude.{None}
use Rattle.closing.specs.Words.{Handed, filled}
use Rattle.closing.specs.Answer.{Verdict, refused, none, over, granted}
use Rattle.closing.specs.Call.{closing_tests, answer_by}
use Rattle.report.specs.Answer.{answer_text}
use Rattle.calls.specs.Facts.{Call, step, closing, Known, step_refusal, closing_refusal, after, known, start}

pub data Said : Type 0 where
  -- the name that a mask gives, `no_name` for none
  name : ℕ → Said
  -- how many paths there are beside the root, seen ones (the facts) or not
  paths : ℕ → Said
  -- the kind of record 2
  kind : ℕ → Said
  -- how many types the list has, where one is granted
  list : ℕ → Said
  -- what is left of the budget, where a list is granted
  left : ℕ → Said
  -- the closing's answer, or the refusal of a call
  answer : Verdict → Said
  -- the lines that are printed of the closing, as bytes
  printed : List ℕ → Said

-- "the table has 1,480 records"
abbrev pub records : ℕ
records = trace_records

-- "Empty code, no packed word"
abbrev pub empty_code : Handed
empty_code = record { code = []; start = 0; packed = None }

-- a type slice that question 9 takes
abbrev pub types : List ℕ
types = replicate types_room 0

-- the number of a call's refusal, 0 for none
abbrev pub refusal_of : Known → Call → ℕ
refusal_of k (step bytes stack memory x u) = step_refusal records k bytes stack memory x
refusal_of k (closing h ts) = closing_refusal records k h ts

-- that of the first call that is refused, 0 where all are taken
unfoldable pub first_refusal : Known → List Call → ℕ
first_refusal k [] = 0
first_refusal k (c ∷ cs) = cond (eqb (refusal_of k c) 0) (first_refusal (after records k c) cs) (refusal_of k c)

-- what is asked of the state after calls to a fresh table, all of which have to be taken
abbrev pub trace : List Call → (List Node → Said) → Said
trace cs ask =
    cond (eqb (first_refusal start cs) 0) (ask (known records cs).state) (answer (refused (first_refusal start cs)))

-- the closing's answer for the state s
abbrev pub verdict : List Node → Verdict
verdict s = answer_by (first_no (closing_tests records s empty_code types)) (filled s empty_code)

abbrev pub paths_in : List Node → Said
paths_in s = paths (length s - 1)

abbrev pub kind_in : List Node → Said
kind_in s = kind (node_of s 2).kind

abbrev pub answer_in : List Node → Said
answer_in s = answer (verdict s)

abbrev pub list_by : Verdict → AbiTypes → Said
list_by (granted e l h) ts = list (count ts)
list_by (refused n) ts = answer (refused n)
list_by none ts = answer none
list_by over ts = answer over

abbrev pub list_in : List Node → Said
list_in s = list_by (verdict s) (list_of (filled s empty_code))

abbrev pub printed_in : List Node → Said
printed_in s = printed (answer_text (verdict s) (list_of (filled s empty_code)))

abbrev pub left_by : Verdict → Said
left_by (granted e l h) = left l
left_by (refused n) = answer (refused n)
left_by none = answer none
left_by over = answer over

abbrev pub left_in : List Node → Said
left_in s = left_by (verdict s)
