-- What a state meets by itself: question 2 said of nodes. A table is sound exactly when it is the table of such a state
-- (`sound_exactly`), and that state is the one read off it (`state_is`).
use Rattle.std.specs.Prelude.{ℕ, ◌≤◌, ◌<◌, ◌≡◌, true, List, length}
use Rattle.facts.specs.State.{Node, root, node_of, encode}
use Rattle.facts.specs.Checks.{is_record}

pub record Formed (s : List Node) : Type 0 where
  -- path 1 is the root
  pub some : 1 ≤ length s
  pub first : node_of s 1 ≡ root
  -- parents come first
  pub lower : (r : ℕ) → 1 < r → r ≤ length s → (1 ≤ (node_of s r).parent) × ((node_of s r).parent < r)
  -- no path stands twice
  pub distinct : (r q : ℕ) → 1 < r → r ≤ length s → 1 < q → q ≤ length s → (node_of s r).parent ≡ (node_of s q).parent
      → (node_of s r).key ≡ (node_of s q).key → r ≡ q
  -- flags, kind, count, name and confidence
  pub fact : (r : ℕ) → 1 ≤ r → r ≤ length s → is_record (node_of s r) ≡ true
  -- "A seen record's parent is seen"
  pub seen_parent : (r : ℕ) → 1 < r → r ≤ length s → (node_of s r).seen ≡ 1 → (node_of s (node_of s r).parent).seen ≡ 1

-- the table of N records is that of a formed state with so many paths
pub record TableOf (t : List ℕ) (used N : ℕ) : Type 0 where
  pub state : List Node
  pub formed : Formed state
  pub paths : length state ≡ used
  pub fits : used ≤ N
  pub is : t ≡ encode N state
