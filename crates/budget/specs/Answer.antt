-- The answer of `fits_type_budget`.
use Rattle.std.specs.Prelude.{ℕ, ◌-◌, cond, List, Some, None}
use Rattle.limits.specs.Limits.{budget_max}
use Rattle.facts.specs.State.{Node}
use Rattle.list.specs.Budget.{spend, fits_budget}
use Rattle.budget.specs.declared.Below.{Below}
use Rattle.std.specs.declared.option.Option.{Option}

-- "left is 8,192 less the sum"; none, that is over, where a fact lies deeper than 64 or the sum is more
unfoldable pub budget_of : List Node → Option ℕ
budget_of s = cond (fits_budget s) (Some (budget_max - spend s)) None

-- what is left, of the walk's answer
abbrev pub left_of : Option Below → Option ℕ
left_of (Some below) = Some below.left
left_of None = None
