-- What a call has done, said of the state: the table that it leaves holds the state s in its first used records.
use Rattle.std.specs.Prelude.{◌≡◌, ℕ, ◌+◌, ◌≤◌, List}
use Rattle.facts.specs.State.{Node, nodes}
use Rattle.paths.specs.Shape.{Shaped}
use Rattle.paths.specs.Make.{Made}

pub record Represents (t : List ℕ) (used N : ℕ) (s : List Node) : Type 0 where
  pub shaped : Shaped t used N
  pub state : nodes t used ≡ s

-- a call that began with u used records has made m: it answers the number r, and the table t holds m's state in its
-- first used records
pub record Makes (u : ℕ) (m : Made) (t : List ℕ) (used N r : ℕ) : Type 0 where
  pub shaped : Shaped t used N
  pub state : nodes t used ≡ m.state
  pub number : r ≡ m.number
  pub range : (1 ≤ r) × (r ≤ used) × (u ≤ used) × (used ≤ u + 1)
