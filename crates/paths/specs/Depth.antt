-- "A fact's depth is the number of keys on its path from the root."
use Rattle.std.specs.Prelude.{ℕ, zero, suc, cond, List, nat_le}
use Rattle.facts.specs.State.{Node, node_of}

-- the keys from node r up; n is as many turns as that can take
unfoldable pub depth_up : ℕ → List Node → ℕ → ℕ
depth_up zero s r = 0
depth_up (suc n) s r = cond (nat_le r 1) 0 (suc (depth_up n s (node_of s r).parent))

-- a parent has a lower number, so r turns are enough
unfoldable pub depth_of : List Node → ℕ → ℕ
depth_of s r = depth_up r s r
