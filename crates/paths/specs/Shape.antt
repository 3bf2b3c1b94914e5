-- A table that holds a state: its links are those of the state's paths, and all records beyond used are zero. What a
-- record's fields say is not asked here (question 2 asks it too), since a change of several fields goes through tables
-- that are not sound.
use Rattle.std.specs.Prelude.{◌≡◌, ℕ, ◌*◌, ◌<◌, ◌≤◌, List, length}
use Rattle.limits.specs.Limits.{record_width}
use Rattle.facts.specs.Table.{parent_of, next_of, Blank}
use Rattle.facts.specs.Linked.{Linked}

pub record Shaped (t : List ℕ) (used N : ℕ) : Type 0 where
  pub size : length t ≡ N * record_width
  pub most : used ≤ N
  pub linked : Linked t used
  pub root_parent : parent_of t 1 ≡ 0
  pub root_next : next_of t 1 ≡ 0
  pub beyond : (r : ℕ) → used < r → r ≤ N → Blank t r
