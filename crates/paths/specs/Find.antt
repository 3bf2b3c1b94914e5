-- Looking a path up: the path of p with the key k at its end, seen or not, and seen only, as the Rust's `get_mut` does.
-- "Children of one record form a chain through next, keys strictly rising", so there is one at most.
use Rattle.std.specs.Prelude.{ℕ, zero, suc, cond, ◌&&◌, List, length, ◌==◌}
use Rattle.facts.specs.State.{Node, node_of}

-- the number up to n of the node with the parent p and the key k, 0 without one
unfoldable pub find_to : List Node → ℕ → ℕ → ℕ → ℕ
find_to s p k zero = 0
find_to s p k (suc n) = cond ((node_of s (suc n)).parent == p && (node_of s (suc n)).key == k) (suc n) (find_to s p k n)

-- the same among all nodes
unfoldable pub find_in : List Node → ℕ → ℕ → ℕ
find_in s p k = find_to s p k (length s)

-- `get_mut`: "A record that isn't seen is no node of `Info`", so the number of the seen node with the parent p and the
-- key k, 0 without one
unfoldable pub get_mut : List Node → ℕ → ℕ → ℕ
get_mut s p k = cond ((node_of s (find_in s p k)).seen == 1) (find_in s p k) 0
