-- What a closing prints and leaves. In these words one function promises another; no outcome is written with them.
use Rattle.std.specs.Prelude.{ℕ, ◌≡◌, true, List, ◌++◌}
use Rattle.types.specs.Tree.{AbiTypes, count, all_well_formed}
use Rattle.types.specs.Codes.{all_codes}
use Rattle.head.specs.Held.{Held}
use Rattle.list.specs.Types.{list_of}
use Rattle.spell.specs.Stored.{StoredAt, Stored}
use Rattle.closing.specs.Answer.{Verdict, refused, none, over, granted}
use Rattle.closing.specs.Words.{Handed}
use Rattle.closing.specs.Call.{state_after, Outcome}
use Rattle.report.specs.Answer.{answer_text}

-- a list that is granted has as many types as entries
abbrev pub HasEntries : Verdict → AbiTypes → Type 0
HasEntries (refused n) ts = Unit {0}
HasEntries none ts = Unit {0}
HasEntries over ts = Unit {0}
HasEntries (granted entries left head) ts = count ts ≡ entries

-- the text of an answer stands from an index on, for any types whose codes the type slice begins with
abbrev pub Reported : Verdict → List ℕ → List ℕ → ℕ → ℕ → List ℕ → Type 0
Reported v cs out from r out' =
    (ts : AbiTypes) (rest : List ℕ) → all_well_formed ts ≡ true → cs ≡ all_codes ts ++ rest → HasEntries v ts
    → StoredAt (answer_text v ts) out from r out'

-- what a closing prints and leaves: its outcome, head and lent slices with it, and the text of that outcome and of the
-- list of the facts after the fill. (`one_outcome` of the closing: there is one outcome only.)
pub record Printed (t : Held) (types : List ℕ) (h : Handed) (out : List ℕ) (r : ℕ) (out' : List ℕ) (t' : Held)
    (types' : List ℕ) : Type 0 where
  pub verdict : Verdict
  pub outcome : Outcome t types h verdict t' types'
  pub stored : Stored (answer_text verdict (list_of (state_after t h))) out r out'
