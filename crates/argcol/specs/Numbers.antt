-- The calls in numbers, as a host sees them: which number says what, and what is written to the numbers that a host
-- lends for an answer's values. The step answers by document 01's number (0 for a call that is taken) and needs no more
-- than its own definition; here are the fresh call, the closing and the text call.
use Rattle.std.specs.Prelude.{ℕ, ◌≡◌, cond, List, Option, Some, None, eqb}
use Rattle.limits.specs.Refusal.{taken}
use Rattle.word.specs.Numbers.{limbs_at}
use Rattle.head.specs.Held.{Held, held}
use Rattle.head.specs.Fresh as fresh-call
use Rattle.word.specs.declared.U256.{U256}
use Rattle.closing.specs.Answer.{Verdict, refused, none, over, granted, number_of}
use Rattle.closing.specs.Words.{Handed, hand}
use Rattle.closing.specs.Call.{Outcome}
use Rattle.text.specs.Call as text-call
use Rattle.argcol.specs.declared.Values.{Values}

-- the head's two numbers, which a host lends one by one, and the table
abbrev pub gather : ℕ → ℕ → List ℕ → Held
gather used active table = held (record { used = used; active = active }) table

-- what a fresh call answers and leaves: its number, without the record count, which a host has. (`one_fresh`: there is
-- one outcome only.)
pub record FreshOutcome (h : Held) (number : ℕ) (h' : Held) : Type 0 where
  pub count : ℕ
  pub outcome : fresh-call.Outcome h number count h'

-- the kinds of a closing that is taken, which are ours
abbrev pub kind_none : ℕ
kind_none = 1

abbrev pub kind_over : ℕ
kind_over = 2

abbrev pub kind_granted : ℕ
kind_granted = 3

-- the kind and the values of a closing's answer: entry count, budget left, head length, 0 unless it is granted
abbrev pub values : ℕ → ℕ → ℕ → ℕ → Values
values kind entries left length = record { kind = kind; entries = entries; left = left; length = length }

-- what the numbers that a host lends for them hold then: "A refusal leaves all lent memory unchanged."
abbrev pub values_after : Verdict → Values → Values
values_after (refused n) v = v
values_after none v = values kind_none 0 0 0
values_after over v = values kind_over 0 0 0
values_after (granted entries left length) v = values kind_granted entries left length

-- "an optional packed word": a flag, 0 for none, beside the word's eight numbers, which are there at flag 0 too
unfoldable pub packed_of : ℕ → List ℕ → Option U256
packed_of flag word = cond (eqb flag 0) None (Some (limbs_at word 0))

-- what a closing is handed beside the head, the table and the type slice
abbrev pub hand_numbers : List ℕ → ℕ → ℕ → List ℕ → Handed
hand_numbers code start flag word = hand code start (packed_of flag word)

-- what a closing answers and leaves, with those numbers v. (`one_closing`: there is one outcome only.)
pub record ClosingOutcome (t : Held) (types : List ℕ) (h : Handed) (v : Values) (number : ℕ) (t' : Held)
    (types' : List ℕ) (v' : Values) : Type 0 where
  pub verdict : Verdict
  pub outcome : Outcome t types h verdict t' types'
  pub says : number ≡ number_of verdict
  pub leaves : v' ≡ values_after verdict v

-- what a text call answers and leaves, with the number that a host lends for the text's length. (`one_text`: there is
-- one outcome only.)
pub record TextOutcome (codes out : List ℕ) (length number : ℕ) (out' : List ℕ) (length' : ℕ) : Type 0 where
  pub written : ℕ
  pub outcome : text-call.Outcome codes out number written out'
  pub leaves : length' ≡ cond (eqb number taken) written length
