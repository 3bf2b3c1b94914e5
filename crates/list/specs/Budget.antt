-- The budget: "`fits_type_budget` starts at depth 0 with 8,192. A node costs one more than its last word .. left is
-- 8,192 less the sum."
use Rattle.std.specs.Prelude.{ℕ, zero, suc, ◌+◌, Bool, true, cond, not, ◌&&◌, ◌||◌, List, eqb, leb, length}
use Rattle.limits.specs.Limits.{budget_max, depth_max}
use Rattle.facts.specs.State.{Node, node_of}
use Rattle.paths.specs.Depth.{depth_of}
use Rattle.list.specs.Seen.{last_word}

-- demand 3: "the sum over all facts of last word plus one"; over the nodes up to n
unfoldable pub spend_to : List Node → ℕ → ℕ
spend_to s zero = 0
spend_to s (suc n) = spend_to s n + cond (eqb (node_of s (suc n)).seen 1) (suc (last_word s (suc n))) 0

-- the sum
unfoldable pub spend : List Node → ℕ
spend s = spend_to s (length s)

-- demand 3: "no fact lies deeper than 64"; over the nodes up to n
unfoldable pub shallow_to : List Node → ℕ → Bool
shallow_to s zero = true
shallow_to s (suc n) = shallow_to s n && (not (eqb (node_of s (suc n)).seen 1) || leb (depth_of s (suc n)) depth_max)

unfoldable pub shallow : List Node → Bool
shallow s = shallow_to s (length s)

-- `fits_type_budget`
abbrev pub fits_budget : List Node → Bool
fits_budget s = shallow s && leb (spend s) budget_max
