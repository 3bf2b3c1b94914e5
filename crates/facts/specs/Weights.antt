-- What question 2's test of the chains adds up: records and the links that lead to them, each link as much as its
-- record. `weighed_chained` shows that the links lead to every record but the root just where both sides are equal.
use Rattle.std.specs.Prelude.{ℕ, ◌+◌, ◌^◌, ◌≤◌, ◌<◌, ◌≡◌, true, cond, List, eqb, Some, None}
use Rattle.std.specs.declared.option.Option.{Option}
use Rattle.facts.specs.Table.{key_of, parent_of, child_of, next_of, seen_of}
use Rattle.facts.specs.State.{node_at}
use Rattle.facts.specs.Checks.{is_record}

-- more than all keys of a table together
abbrev pub link_weight : ℕ
link_weight = 140737488355328

-- more than any record weighs
abbrev pub weight_end : ℕ
weight_end = link_weight + 2 ^ 32

-- what a record weighs
unfoldable pub weight : List ℕ → ℕ → ℕ
weight t r = link_weight + key_of t r

-- what a link to record c weighs, 0 for none
unfoldable pub link_to : List ℕ → ℕ → ℕ
link_to t c = cond (eqb c 0) 0 (weight t c)

-- c, 0 for none, stands in the chain of p by its own fields: used, with the parent p; and it weighs more than the one
-- before
abbrev pub Leads : List ℕ → ℕ → ℕ → ℕ → ℕ → Type 0
Leads t u p before c = (c ≡ 0 → ⊥) → (c ≤ u) × (parent_of t c ≡ p) × (before < weight t c)

-- the parent has a lower number, and is seen if r is
pub record Under (t : List ℕ) (r : ℕ) : Type 0 where
  pub from : 1 ≤ parent_of t r
  pub above : parent_of t r < r
  pub seen : seen_of t r ≤ seen_of t (parent_of t r)

-- what the pass asks of a record other than the root
pub record Fits (t : List ℕ) (u r : ℕ) : Type 0 where
  pub under : Under t r
  pub fact : is_record (node_at t r) ≡ true
  pub child : Leads t u r 0 (child_of t r)
  pub next : Leads t u (parent_of t r) (weight t r) (next_of t r)

-- the answer for a link to c, which is added to the others where P holds
abbrev pub Weighs : Option ℕ → Type 0 → List ℕ → ℕ → ℕ → Type 0
Weighs (Some w) P t c links = P × (w ≡ links + link_to t c) × (w < links + weight_end)
Weighs None P t c links = P → ⊥

-- the answer for the record r, whose two links are added to the others where it fits
pub record Added (w : ℕ) (t : List ℕ) (r links : ℕ) : Type 0 where
  pub sum : w ≡ links + link_to t (child_of t r) + link_to t (next_of t r)
  pub child_end : link_to t (child_of t r) < weight_end
  pub next_end : link_to t (next_of t r) < weight_end

abbrev pub Adds : Option ℕ → List ℕ → ℕ → ℕ → ℕ → Type 0
Adds (Some w) t u r links = Fits t u r × Added w t r links
Adds None t u r links = Fits t u r → ⊥
