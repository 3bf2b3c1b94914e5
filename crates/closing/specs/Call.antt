-- "Closing": what the call answers and leaves, for any numbers at all.
use Rattle.std.specs.Prelude.{ℕ, ◌≡◌, Bool, cond, List, [], ◌∷◌, eqb, leb, length}
use Rattle.limits.specs.Limits.{types_room}
use Rattle.limits.specs.Refusal.{taken}
use Rattle.limits.specs.declared.refusal.Refusal.TheVariants.{LongCode, NoRoom, ShortTypes}
use Rattle.facts.specs.State.{Node}
use Rattle.head.specs.Held.{Held, records_in, state_in, holding}
use Rattle.head.specs.Asked.{Test, test, Questions, FirstNo, after_sound, code_fits}
use Rattle.closing.specs.Words.{Handed, filled}
use Rattle.closing.specs.Answer.{Verdict, refused, answer_of, types_after}

-- 9. "has the type slice 8,192 u16 numbers or more?"
abbrev pub types_fit : List ℕ → Bool
types_fit types = leb types_room (length types)

-- "Then 8, for the records to fill in."
abbrev pub room_there : ℕ → List Node → Handed → Bool
room_there N s h = leb (length (filled s h)) N

-- "After questions 1 to 3 comes 9 .. Then 8": 3, 9 and 8 of the state s in a table of N records
unfoldable pub closing_tests : ℕ → List Node → Handed → List ℕ → List Test
closing_tests N s h types =
    test (code_fits h.code) LongCode
    ∷ test (types_fit types) ShortTypes
    ∷ test (room_there N s h) NoRoom
    ∷ []

-- of what is lent
abbrev pub tests_of : Held → Handed → List ℕ → List Test
tests_of t h types = closing_tests (records_in t) (state_in t) h types

-- "The questions are taken in this order": 1 and 2, and then these
abbrev pub questions : Held → Handed → List ℕ → Questions
questions t h types = after_sound t (tests_of t h types)

-- the state after the fill: "Fill stays."
abbrev pub state_after : Held → Handed → List Node
state_after t h = filled (state_in t) h

-- the answer for the state s, which is that after the fill
abbrev pub answer_by : ℕ → List Node → Verdict
answer_by number s = cond (eqb number taken) (answer_of s) (refused number)

-- the answer, and what is left of the head, the table and the type slice; refused, all is as it was. (`one_outcome`:
-- there is one outcome only.)
pub record Outcome (t : Held) (types : List ℕ) (h : Handed) (v : Verdict) (t' : Held) (types' : List ℕ) : Type 0 where
  pub number : ℕ
  pub asked : FirstNo (questions t h types) number
  pub answers : v ≡ answer_by number (state_after t h)
  pub leaves : t' ≡ cond (eqb number taken) (holding (records_in t) t.head.active (state_after t h)) t
  pub writes : types' ≡ cond (eqb number taken) (types_after (state_after t h) types) types
