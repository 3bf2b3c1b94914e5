-- What the walk of the budget promises of a record and all below it. No public call's outcome is written with this.
use Rattle.std.specs.Prelude.{ℕ, ◌-◌, ◌≤◌, ◌≡◌, Bool, cond, ◌&&◌, List, leb, length, Some, None}
use Rattle.facts.specs.State.{Node}
use Rattle.list.specs.Seen.{last_word}
use Rattle.list.specs.Walk.{spend_below, shallow_below}
use Rattle.budget.specs.declared.Below.{Below}
use Rattle.std.specs.declared.option.Option.{Option}

-- what a sum leaves of a number, none if a fact lies too deep or the sum is larger
unfoldable pub leaves : Bool → ℕ → ℕ → Option ℕ
leaves shallow sum left = cond (shallow && leb sum left) (Some (left - sum)) None

-- what the facts at r and below it leave of a number, r standing at that depth
unfoldable pub budget_below : List Node → ℕ → ℕ → ℕ → Option ℕ
budget_below s r depth left = leaves (shallow_below (length s) s depth r) (spend_below (length s) s r) left

-- the answer for r and all below it: what they leave, and r's last word
abbrev pub Paid : List Node → ℕ → ℕ → ℕ → Option Below → Type 0
Paid s r depth left (Some below) =
    (budget_below s r depth left ≡ Some below.left) × (below.left ≤ left) × (below.last_word ≡ last_word s r)
Paid s r depth left None = budget_below s r depth left ≡ None
