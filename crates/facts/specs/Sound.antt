-- Question 2: "Is it sound?", sentence by sentence.
use Rattle.std.specs.Prelude.{ℕ, ◌*◌, ◌≤◌, ◌<◌, ◌≡◌, Bool, true, List, length}
use Rattle.limits.specs.Limits.{record_width}
use Rattle.facts.specs.Table.{key_of, parent_of, child_of, next_of, seen_of, not_bool_of, Blank}
use Rattle.facts.specs.Links.{Seg, ChainOf}
use Rattle.facts.specs.State.{Node, node_at}
use Rattle.facts.specs.Fact.{are_flags, is_bare, is_bare_unseen, is_kind, is_confidence, is_count, is_named}

-- the test holds for each of the records 1 to used
abbrev pub Each : List ℕ → ℕ → (Node → Bool) → Type 0
Each t used test = (r : ℕ) → 1 ≤ r → r ≤ used → test (node_at t r) ≡ true

-- "The root is seen, otherwise zero but for child."
pub record Root (t : List ℕ) : Type 0 where
  pub seen : seen_of t 1 ≡ 1
  pub key : key_of t 1 ≡ 0
  pub parent : parent_of t 1 ≡ 0
  pub next : next_of t 1 ≡ 0
  pub not_bool : not_bool_of t 1 ≡ 0
  pub last_five : is_bare (node_at t 1) ≡ true

-- a table of N records, of which the first ones are used
pub record Sound (t : List ℕ) (used N : ℕ) : Type 0 where
  pub size : length t ≡ N * record_width
  -- "Used is from 1 to the record count."
  pub some : 1 ≤ used
  pub most : used ≤ N
  -- "Records beyond used are zero."
  pub beyond : (r : ℕ) → used < r → r ≤ N → Blank t r
  -- "Flags are 0 or 1."
  pub flags : Each t used are_flags
  -- "Each used record but the root stands exactly once in the chain of its parent, which has a lower number; a chain
  -- holds nothing else."
  pub lower : (r : ℕ) → 1 < r → r ≤ used → (1 ≤ parent_of t r) × (parent_of t r < r)
  pub stands : (r : ℕ) → 1 < r → r ≤ used → (ms : List ℕ) × Seg t (child_of t (parent_of t r)) ms r
  -- "Children of one record form a chain through next, keys strictly rising, zero ending the chain."
  pub chain : (p : ℕ) → 1 ≤ p → p ≤ used → ChainOf t used p
  -- "A seen record's parent is seen; an unseen one has zero in the last five fields."
  pub seen_parent : (r : ℕ) → 1 < r → r ≤ used → seen_of t r ≡ 1 → seen_of t (parent_of t r) ≡ 1
  pub unseen : Each t used is_bare_unseen
  -- "Kind is at most 2."
  pub kind : Each t used is_kind
  -- "Confidence is 1 to 20 with a name, else 0."
  pub confidence : Each t used is_confidence
  -- "Count is 1 to 99 for an array, at most 134,217,727 for dynamic, else 0."
  pub count : Each t used is_count
  -- "A record's name is 0 or a code other than 5 and tuples"; "uint and int have 8 to 256 bits in eights, fixed bytes 1
  -- to 32."
  pub name : Each t used is_named
  -- "The root is seen, otherwise zero but for child."
  pub root : Root t
