-- What a call does to the facts of a lent table.
use Rattle.std.specs.Prelude.{◌≡◌, ℕ, ◌+◌, ◌≤◌, List}
use Rattle.facts.specs.State.{Node, nodes}
use Rattle.paths.specs.Make.{Made}
use Rattle.paths.specs.declared.lent.Facts.{Facts}
use Rattle.paths.specs.declared.lent.FactsMut.{FactsMut}

-- the facts that the table holds
abbrev pub facts_of : Facts → List Node
facts_of f = nodes f.table.now f.used

-- the same of a table that may be written
abbrev pub facts_in : FactsMut → List Node
facts_in f = nodes f.table.now f.used

-- the same table, with as many records in all
pub record IsSameTable (old new : FactsMut) : Type 0 where
  pub records : new.records ≡ old.records
  pub reference : new.table.ghost_name ≡ old.table.ghost_name

-- the table holds the facts s, as many as before
pub record Becomes (old new : FactsMut) (s : List Node) : Type 0 where
  pub state : facts_in new ≡ s
  pub used : new.used ≡ old.used
  pub same : IsSameTable old new

-- the table holds the facts s, no fewer than before
pub record Grows (old new : FactsMut) (s : List Node) : Type 0 where
  pub state : facts_in new ≡ s
  pub used : old.used ≤ new.used
  pub same : IsSameTable old new

-- the call has made m and answers the number r: the table holds m's facts, one more than before at most
pub record Makes (old new : FactsMut) (m : Made) (r : ℕ) : Type 0 where
  pub state : facts_in new ≡ m.state
  pub number : r ≡ m.number
  pub range : (1 ≤ r) × (r ≤ new.used) × (old.used ≤ new.used) × (new.used ≤ old.used + 1)
  pub same : IsSameTable old new
