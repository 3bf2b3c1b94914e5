-- The chains once more, by what stands at each record (`Linked`), as functions and proofs use them; `chained_linked`
-- and `linked_chained` show that the two are one. No outcome is written with these definitions.
use Rattle.std.specs.Prelude.{ℕ, ◌+◌, ◌*◌, ◌≤◌, ◌<◌, ◌≡◌, List, length}
use Rattle.limits.specs.Limits.{record_width}
use Rattle.facts.specs.Table.{key_of, parent_of, child_of, next_of}
use Rattle.facts.specs.Links.{Kid, Seg, ChainOf}
use Rattle.facts.specs.State.{kids}

-- "Each used record but the root stands exactly once in the chain of its parent, which has a lower number; a chain
-- holds nothing else." (Once: no key stands twice in a chain, since keys rise: `stands_once`.)
pub record Chained (t : List ℕ) (u : ℕ) : Type 0 where
  pub some : 1 ≤ u
  pub whole : u * record_width ≤ length t
  pub up : (r : ℕ) → 1 < r → r ≤ u → (1 ≤ parent_of t r) × (parent_of t r < r)
  pub chain : (p : ℕ) → 1 ≤ p → p ≤ u → ChainOf t u p
  pub placed : (r : ℕ) → 1 < r → r ≤ u → (ms : List ℕ) × Seg t (child_of t (parent_of t r)) ms r

-- c is the child of p of least key from b on, 0 if there is none
pub record First (t : List ℕ) (u p b c : ℕ) : Type 0 where
  pub none : c ≡ 0 → (r : ℕ) → Kid t u p r → key_of t r < b
  pub kid : (c ≡ 0 → ⊥) → Kid t u p c
  pub from : (c ≡ 0 → ⊥) → b ≤ key_of t c
  pub least : (r : ℕ) → Kid t u p r → b ≤ key_of t r → key_of t c ≤ key_of t r

-- child is the first child, next the first after the record's own key, and no two children of one record have one key
pub record Linked (t : List ℕ) (u : ℕ) : Type 0 where
  pub some : 1 ≤ u
  pub whole : u * record_width ≤ length t
  pub up : (r : ℕ) → 1 < r → r ≤ u → (1 ≤ parent_of t r) × (parent_of t r < r)
  pub child : (p : ℕ) → 1 ≤ p → p ≤ u → First t u p 0 (child_of t p)
  pub next : (p r : ℕ) → 1 ≤ p → Kid t u p r → First t u p (key_of t r + 1) (next_of t r)
  pub distinct : (p r s : ℕ) → 1 ≤ p → Kid t u p r → Kid t u p s → key_of t r ≡ key_of t s → r ≡ s

-- the children of p in a table
abbrev pub kids_of : List ℕ → ℕ → ℕ → List ℕ
kids_of t u p = kids (λ r. key_of t r) (λ r. parent_of t r) p u
