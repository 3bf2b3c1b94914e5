-- What a shaped table's state has, and what question 2 asks of seen.
use Rattle.std.specs.Prelude.{◌≡◌, ℕ, ◌<◌, ◌≤◌, List, length}
use Rattle.facts.specs.State.{Node, node_of}

-- the first node is the root, and each other one's parent has a lower number
pub record Ordered (s : List Node) : Type 0 where
  pub some : 1 ≤ length s
  pub root : (node_of s 1).parent ≡ 0
  pub lower : (r : ℕ) → 1 < r → r ≤ length s → (1 ≤ (node_of s r).parent) × ((node_of s r).parent < r)

-- "A seen record's parent is seen"
pub record UnderSeen (s : List Node) : Type 0 where
  pub parent : (r : ℕ) → 1 < r → r ≤ length s → (node_of s r).seen ≡ 1 → (node_of s (node_of s r).parent).seen ≡ 1
