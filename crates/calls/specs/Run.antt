-- The calls themselves, by their contracts: "A taken fresh call comes first and fixes the record count. Each step or
-- closing then gets the table and head that the one before left".
use Rattle.std.specs.Prelude.{ℕ, ◌≡◌, cond, List, [], ◌∷◌}
use Rattle.head.specs.Held.{Held, holding}
use Rattle.step.specs.Call as step_call
use Rattle.closing.specs.Answer.{Verdict}
use Rattle.closing.specs.Call as closing-call
use Rattle.calls.specs.Facts.{Call, step, closing, Known}

-- a call that is handed t leaves t', with some answer, as its contract says; what else it leaves is its own
abbrev pub Does : Held → Call → Held → Type 0
Does t (step bytes stack memory x u) t' =
    (number : ℕ) × (stack' : List ℕ) × (memory' : List ℕ)
    × step_call.Outcome (step_call.lend t stack memory) bytes x number (step_call.lend t' stack' memory')
Does t (closing h types) t' = (v : Verdict) × (types' : List ℕ) × closing-call.Outcome t types h v t' types'

-- a list of calls, each handed what the one before left
abbrev pub Run : Held → List Call → Held → Type 0
Run t [] t' = t' ≡ t
Run t (c ∷ cs) t' = (m : Held) × Does t c m × Run m cs t'

-- the table and the head of what is known, in a table of N records
abbrev pub held_of : ℕ → Known → Held
held_of N k = holding N (cond k.active 1 0) k.state
