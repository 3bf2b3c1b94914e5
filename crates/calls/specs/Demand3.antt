-- Demand 3, whole: its sentences in their order. The theorem is `demand_3` (proofs/Demand3.antt).
use Rattle.std.specs.Prelude.{ℕ, ◌≤◌, ◌<◌, ◌≡◌, List, ◌∷◌, ◌++◌}
use Rattle.limits.specs.Limits.{records_max}
use Rattle.limits.specs.Refusal.{taken}
use Rattle.paths.specs.Path.{AgreeAt}
use Rattle.head.specs.Held.{Held, HasRecords, IsSound}
use Rattle.head.specs.Fresh as fresh-call
use Rattle.head.specs.Fresh.{opened}
use Rattle.list.specs.Types.{list_of}
use Rattle.list_theorems.specs.Entry.{entry_of}
use Rattle.closing.specs.Words.{Handed}
use Rattle.closing.specs.Answer.{Verdict, granted}
use Rattle.closing.specs.Call.{state_after, answer_by, Outcome}
use Rattle.calls.specs.Fits.{AreU32}
use Rattle.calls.specs.Facts.{Call, step, closing, known, step_refusal, closing_refusal}
use Rattle.calls.specs.Run.{Run, held_of}
use Rattle.calls.specs.Claims.{FirstOf, StepIn, ClosingIn, closing_state, NotRefused, JudgedBy, GrantedList}

-- "For every list of steps and closings, refused ones included, from a fresh table" of N records, "each handed the
-- table and the head beside it as the one before left them, and whatever else"
pub record OfLists (N : ℕ) : Type 0 where
  -- every list runs: no call is without an outcome
  pub runs : (cs : List Call) → Run (opened N) cs (held_of N (known N cs))
  -- document 01: "A list's facts follow from the record count and its calls' arguments alone": the table and the head
  -- that a list leaves are those of what is known from the calls alone, so that "the table's seen records are exactly
  -- these"
  pub follows : (cs : List Call) (t : Held) → Run (opened N) cs t → t ≡ held_of N (known N cs)
  -- and so no call after the fresh one is refused by 1 or 2
  pub stays_sound : (cs : List Call) (t : Held) → Run (opened N) cs t → HasRecords t × IsSound t
  -- each step in a list has an outcome, and answers the refusal that the questions give, "decided with the paths so far
  -- as the used records"
  pub steps_in : (before : List Call) (bytes stack memory x : List ℕ) (u : AreU32 x) (behind : List Call) (t : Held)
      → Run (opened N) (before ++ step bytes stack memory x u ∷ behind) t
      → (number : ℕ) × (left : Held) × StepIn N before bytes stack memory x number left × Run left behind t
  pub steps_answer : (before : List Call) (bytes stack memory x : List ℕ) (number : ℕ) (left : Held)
      → StepIn N before bytes stack memory x number left → number ≡ step_refusal N (known N before) bytes stack memory x
  -- "every closing in it" has an outcome, and answers as these questions and the facts so far, "its own fill included",
  -- have it
  pub closings_in : (before : List Call) (h : Handed) (types : List ℕ) (behind : List Call) (t : Held)
      → Run (opened N) (before ++ closing h types ∷ behind) t
      → (answer : Verdict) × (left : Held) × (types' : List ℕ) × ClosingIn N before h types answer left types'
      × Run left behind t
  pub closings_answer : (before : List Call) (h : Handed) (types : List ℕ) (answer : Verdict) (left : Held)
      (types' : List ℕ) → ClosingIn N before h types answer left types'
      → answer ≡ answer_by (closing_refusal N (known N before) h types) (closing_state N before h)
  -- "every closing in it that is not refused, judged by the facts that document 01 works out from the calls alone, its
  -- own fill included, grants a list exactly when .. Otherwise it answers none .. and over .."
  pub closings_judged : (before : List Call) (h : Handed) (types : List ℕ) (answer : Verdict) (left : Held)
      (types' : List ℕ) → ClosingIn N before h types answer left types' → NotRefused answer
      → JudgedBy (closing_state N before h) answer
  -- "A granted list .. is the one that document 01 gives for its facts, .."
  pub closings_granted : (before : List Call) (h : Handed) (types : List ℕ) (entries budget head : ℕ) (left : Held)
      (types' : List ℕ) → ClosingIn N before h types (granted entries budget head) left types'
      → GrantedList (closing_state N before h) types entries budget head types'
  -- the facts of a closing's table are these
  pub closing_facts : (before : List Call) (h : Handed) (handed : Held) → Run (opened N) before handed
      → state_after handed h ≡ closing_state N before h

pub record Demand3 : Type 0 where
  -- document 01: "A taken fresh call comes first and fixes the record count."
  pub fresh_first : (N : ℕ) (t t' : Held) → fresh-call.Outcome t taken N t' → FirstOf N t'
  pub lists : (N : ℕ) → 1 ≤ N → N ≤ records_max → OfLists N
  -- "A granted list, also one from a sound table got in another way, is the one that document 01 gives for its facts,
  -- .."
  pub granted_list : (t : Held) (types : List ℕ) (h : Handed) (entries budget head : ℕ) (t' : Held) (types' : List ℕ)
      → Outcome t types h (granted entries budget head) t' types'
      → GrantedList (state_after t h) types entries budget head types'
  -- "Entry k is the same in any two granted lists that have it and whose facts at and below argument word k agree."
  pub entries_agree : (t : Held) (types : List ℕ) (h : Handed) (e left head : ℕ) (t' : Held) (types' : List ℕ)
      → Outcome t types h (granted e left head) t' types'
      → (u : Held) (slice : List ℕ) (g : Handed) (f rest size : ℕ) (u' : Held) (slice' : List ℕ)
      → Outcome u slice g (granted f rest size) u' slice'
      → (k : ℕ) → k < e → k < f → AgreeAt k (state_after t h) (state_after u g)
      → entry_of k (list_of (state_after t h)) ≡ entry_of k (list_of (state_after u g))
