-- Questions 1 and 2 as the code's tests ask them. In these words one function promises another; no outcome is written
-- with them.
use Rattle.std.specs.Prelude.{ℕ, ◌/◌, ◌≤◌, ◌<◌, ◌≡◌, Bool, true, ◌&&◌, ◌||◌, false, cond, List, eqb, Ok, Err}
use Rattle.std.specs.declared.result.Result.{Result}
use Rattle.limits.specs.declared.refusal.Refusal.{Refusal}
use Rattle.limits.specs.declared.refusal.Refusal.TheVariants.{NoRecords}
use Rattle.facts.specs.Table.{key_of, parent_of, next_of, seen_of, not_bool_of}
use Rattle.facts.specs.State.{Node, node_at}
use Rattle.facts.specs.Fact.{are_flags, is_bare, is_bare_unseen, is_kind, is_confidence, is_count, is_named}
use Rattle.limits.specs.Limits.{record_width}
use Rattle.facts.specs.Count.{has_records}

-- a record's own tests, all in one: of every used record, seen or not
unfoldable pub is_record : Node → Bool
is_record n = are_flags n && is_bare_unseen n && is_kind n && is_confidence n && is_count n && is_named n

-- "A seen record's parent is seen"
unfoldable pub is_under_seen : List ℕ → ℕ → Bool
is_under_seen t r = eqb (seen_of t r) 0 || eqb (seen_of t (parent_of t r)) 1

-- what question 2 asks of the used records, their chains apart
pub record AreRecords (t : List ℕ) (used : ℕ) : Type 0 where
  pub fact : (r : ℕ) → 1 ≤ r → r ≤ used → is_record (node_at t r) ≡ true
  pub under_seen : (r : ℕ) → 1 < r → r ≤ used → is_under_seen t r ≡ true

-- "The root is seen, otherwise zero but for child."
unfoldable pub is_root : List ℕ → Bool
is_root t =
    eqb (seen_of t 1) 1 && eqb (key_of t 1) 0 && eqb (parent_of t 1) 0 && eqb (next_of t 1) 0
    && eqb (not_bool_of t 1) 0 && is_bare (node_at t 1)

-- the answer b says whether P holds
abbrev pub Tells : Bool → Type 0 → Type 0
Tells true P = P
Tells false P = P → ⊥

-- how many records a table of so many numbers has, or the answer "no"
unfoldable pub record_count : ℕ → Result ℕ Refusal
record_count numbers = cond (has_records numbers) (Ok (numbers / record_width)) (Err NoRecords)
