-- The text call: "The text call asks 10: is the list a whole number of well-formed types, at most 8,192 codes? 11: does
-- the text fit?"; "Bytes beyond the text keep their values."
use Rattle.std.specs.Prelude.{ℕ, ◌≤◌, ◌<◌, ◌≡◌, List, ◌++◌, length, drop, Result, Ok, Err}
use Rattle.limits.specs.Refusal.{taken, number_of as refusal_number}
use Rattle.limits.specs.declared.refusal.Refusal.{Refusal}
use Rattle.limits.specs.declared.refusal.Refusal.TheVariants.{BadTypes, ShortText}
use Rattle.types.specs.Tree.{AbiTypes}
use Rattle.types.specs.Codes.{Passes}
use Rattle.types.specs.Text.{list_text}

-- the slice with a text at its start
abbrev pub over : List ℕ → List ℕ → List ℕ
over t out = t ++ drop (length t) out

-- What the call does with a list of codes and a slice, by document 01's numbers: the refusal's number, 0 for none, the
-- text's length, 0 for a refusal, and what the slice holds then. (`one_outcome`: there is one outcome only.)
pub data Outcome (cs out : List ℕ) (number n : ℕ) (out' : List ℕ) : Type 0 where
  written : (ts : AbiTypes) → Passes ts cs → length (list_text ts) ≤ length out → number ≡ taken
      → n ≡ length (list_text ts) → out' ≡ over (list_text ts) out → Outcome cs out number n out'
  no_types : ((ts : AbiTypes) → Passes ts cs → ⊥) → number ≡ refusal_number BadTypes → n ≡ 0 → out' ≡ out
      → Outcome cs out number n out'
  too_long : (ts : AbiTypes) → Passes ts cs → length out < length (list_text ts) → number ≡ refusal_number ShortText
      → n ≡ 0 → out' ≡ out → Outcome cs out number n out'

-- the value of each answer; its number is `answer_number`
abbrev pub length_of : Result ℕ Refusal → ℕ
length_of (Ok n) = n
length_of (Err r) = 0
