-- "The answer is none (the root has no seen child), over, or granted with entry count, budget left and head length (our
-- addition), which is 32 times the entry count."
use Rattle.std.specs.Prelude.{ℕ, suc, ◌-◌, ◌*◌, Bool, true, false, cond, List, ◌++◌, length, drop, Ok, Err}
use Rattle.std.specs.declared.result.Result.{Result}
use Rattle.limits.specs.Limits.{budget_max, word_bytes}
use Rattle.limits.specs.Refusal.{taken, number_of as refusal_number}
use Rattle.limits.specs.declared.refusal.Refusal.{Refusal}
use Rattle.types.specs.Codes.{all_codes}
use Rattle.facts.specs.State.{Node}
use Rattle.list.specs.Seen.{children_in, is_empty, last_word}
use Rattle.list.specs.Budget.{spend, fits_budget}
use Rattle.list.specs.Types.{list_of}
use Rattle.closing.specs.declared.Closing.{Closing}
use Rattle.closing.specs.declared.Closing.TheVariants.{Nothing, Over, Granted}

-- an answer in document 01's words: refused by a number, or "none", "over", "granted with entry count, budget left and
-- head length"
pub data Verdict : Type 0 where
  refused : ℕ → Verdict
  none over : Verdict
  granted : ℕ → ℕ → ℕ → Verdict

-- the number and the values of each answer of the call
abbrev pub verdict_of : Result Closing Refusal → Verdict
verdict_of (Err r) = refused (refusal_number r)
verdict_of (Ok Nothing) = none
verdict_of (Ok Over) = over
verdict_of (Ok (Granted g)) = granted g.entries g.left g.length

-- the refusal's number, 0 for none (that 0 is ours)
abbrev pub number_of : Verdict → ℕ
number_of (refused n) = n
number_of none = taken
number_of over = taken
number_of (granted e l h) = taken

-- entries: "from word 0 to the root's last word"
abbrev pub entries : List Node → ℕ
entries s = suc (last_word s 1)

-- the answer for the state s, which is that after the fill
unfoldable pub answer_of : List Node → Verdict
answer_of s =
    cond (is_empty (children_in s 1)) none
    (cond (fits_budget s) (granted (entries s) (budget_max - spend s) (word_bytes * entries s)) over)

-- is it granted?
abbrev pub is_granted : Verdict → Bool
is_granted (refused n) = false
is_granted none = false
is_granted over = false
is_granted (granted e l h) = true

-- the slice with the list's codes at its start: "None and over leave the type slice as it was; so do granted lists
-- beyond their last code."
abbrev pub with_list : List Node → List ℕ → List ℕ
with_list s types = all_codes (list_of s) ++ drop (length (all_codes (list_of s))) types

unfoldable pub types_after : List Node → List ℕ → List ℕ
types_after s types = cond (is_granted (answer_of s)) (with_list s types) types
