-- What one turn of the walk over the facts clears: a node and all below it.
use Rattle.std.specs.Prelude.{ℕ, zero, suc, ◌≤◌, ◌≡◌, ◌⊎◌, List, length}
use Rattle.facts.specs.State.{Node, node_of}
use Rattle.marks.specs.Hints.{without_range}

-- the node that is so many steps up from q
unfoldable pub up_from : List Node → ℕ → ℕ → ℕ
up_from s q zero = q
up_from s q (suc n) = (node_of s (up_from s q n)).parent

-- q is p, or stands below it: some number of steps up from q one comes to p
pub record AtOrBelow (s : List Node) (p q : ℕ) : Type 0 where
  pub steps : ℕ
  pub is : up_from s q steps ≡ p

-- s' is s with the range names dropped at p and below it, and nowhere else
pub record ClearsBelow (s : List Node) (p : ℕ) (s' : List Node) : Type 0 where
  pub size : length s' ≡ length s
  pub either : (q : ℕ) → 1 ≤ q → q ≤ length s → (node_of s' q ≡ node_of s q) ⊎ (node_of s' q ≡ without_range (node_of s q))
  pub below : (q : ℕ) → 1 ≤ q → q ≤ length s → AtOrBelow s p q → node_of s' q ≡ without_range (node_of s q)
  pub other : (q : ℕ) → 1 ≤ q → q ≤ length s → (AtOrBelow s p q → ⊥) → node_of s' q ≡ node_of s q
