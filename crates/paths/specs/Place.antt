-- The place of a key in a chain: "Children of one record form a chain through next, keys strictly rising, zero ending
-- the chain." It is where the Rust's `get_mut` finds a key in `children` and `get_or_create` adds it.
use Rattle.std.specs.Prelude.{◌≡◌, ℕ, ◌<◌, ◌≤◌, List, ◌≢◌}
use Rattle.facts.specs.Table.{key_of, child_of, next_of}
use Rattle.facts.specs.Links.{Kid}
use Rattle.facts.specs.Linked.{First}

-- a walk of p's chain that looks for the key k may begin behind prev: 0, or a child of p with a lower key
pub record Before (t : List ℕ) (u p k prev : ℕ) : Type 0 where
  pub kid : (prev ≢ 0) → Kid t u p prev
  pub below : (prev ≢ 0) → key_of t prev < k

-- where the key k stands or goes among the children of p: behind prev, the last with a lower key (0: none), and at c,
-- the first from k on (0: none)
pub record Place (t : List ℕ) (u p k prev c : ℕ) : Type 0 where
  pub first : First t u p k c
  pub head : prev ≡ 0 → c ≡ child_of t p
  pub above : prev ≡ 0 → (r : ℕ) → Kid t u p r → k ≤ key_of t r
  pub before : Before t u p k prev
  pub link : (prev ≢ 0) → c ≡ next_of t prev
  pub last : (prev ≢ 0) → (r : ℕ) → Kid t u p r → key_of t r < k → key_of t r ≤ key_of t prev
