-- "Fact table: records of 11, numbered from 1, 0 means none: key, parent, child, next, seen, not-bool, blocked, kind,
-- count, name, confidence." A table is the list of its numbers.
use Rattle.std.specs.Prelude.{ℕ, ◌+◌, ◌-◌, ◌*◌, ◌<◌, ◌≡◌, List, get_or}
use Rattle.limits.specs.Limits.{record_width}
use Rattle.limits.specs.Fields as field

-- field f (from 0) of record r (from 1)
unfoldable pub fld : List ℕ → ℕ → ℕ → ℕ
fld t r f = get_or t ((r - 1) * record_width + f) 0

-- the last key of the record's path
abbrev pub key_of : List ℕ → ℕ → ℕ
key_of t r = fld t r field.key

-- the record whose path is one key shorter
abbrev pub parent_of : List ℕ → ℕ → ℕ
parent_of t r = fld t r field.parent

-- the first record of its chain of children
abbrev pub child_of : List ℕ → ℕ → ℕ
child_of t r = fld t r field.child

-- the record after it in the chain that it stands in
abbrev pub next_of : List ℕ → ℕ → ℕ
next_of t r = fld t r field.next

-- "A record that isn't seen is no node of `Info`; it only holds a not-bool mark or a label's path."
abbrev pub seen_of : List ℕ → ℕ → ℕ
seen_of t r = fld t r field.seen

-- not-bool: 1 where the path was shown to be no bool. "Bool and range names stop at a not-bool mark before any record
-- is made seen."
abbrev pub not_bool_of : List ℕ → ℕ → ℕ
not_bool_of t r = fld t r field.not_bool

-- blocked: the Rust's `range_blocked`, 1 where the path takes no range name any more. "A blocked range name stops after
-- that."
abbrev pub blocked_of : List ℕ → ℕ → ℕ
blocked_of t r = fld t r field.blocked

-- "Kind is 0 none, 1 dynamic, 2 array."
abbrev pub kind_of : List ℕ → ℕ → ℕ
kind_of t r = fld t r field.kind

-- count: the number that goes with the kind, n of the Rust's `Array(n)` and `Dynamic(n)`
abbrev pub count_of : List ℕ → ℕ → ℕ
count_of t r = fld t r field.count

-- "A record's name is 0 or a code other than 5 and tuples."
abbrev pub name_of : List ℕ → ℕ → ℕ
name_of t r = fld t r field.name

-- how sure the name is: "An equal or lower one never replaces."
abbrev pub confidence_of : List ℕ → ℕ → ℕ
confidence_of t r = fld t r field.confidence

-- record r is all zero
pub record Blank (t : List ℕ) (r : ℕ) : Type 0 where
  pub zeros : (f : ℕ) → f < record_width → fld t r f ≡ 0
