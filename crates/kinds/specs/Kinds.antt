-- Kinds and counts, over the state: `set_info`, `array_in_path`, `has_dynamic`.
use Rattle.std.specs.Prelude.{ℕ, zero, suc, ◌+◌, Bool, false, cond, not, ◌&&◌, ◌||◌, List, [], ◌∷◌, eqb, ltb, length}
use Rattle.limits.specs.Fields as field
use Rattle.limits.specs.Limits.{kind_dynamic, kind_array}
use Rattle.facts.specs.State.{Node, node_of, kids_in}
use Rattle.paths.specs.Update.{update}
use Rattle.paths.specs.Make.{make_seen}

-- the state with node r's kind set, and the number that goes with it: the Rust's `el.tinfo = Some(tinfo)`
abbrev pub give_kind : List Node → ℕ → ℕ → ℕ → List Node
give_kind s r kind count = update (update s r field.kind kind) r field.count count

-- "Dynamic never lowers a dynamic count nor replaces an array."
abbrev pub dynamic_at : List Node → ℕ → ℕ → List Node
dynamic_at s r count =
    cond (eqb (node_of s r).kind kind_array) s
    (cond (eqb (node_of s r).kind kind_dynamic && ltb count (node_of s r).count) s
    (give_kind s r kind_dynamic count))

-- "An array replaces dynamic and never lowers."
abbrev pub array_at : List Node → ℕ → ℕ → List Node
array_at s r count =
    cond (eqb (node_of s r).kind kind_array && ltb count (node_of s r).count) s (give_kind s r kind_array count)

-- `set_info` with Dynamic(count): the path r is made seen first; the root has no kind. r is a record that is there; an
-- operation whose path may not be there makes it first (decision D23)
unfoldable pub set_dynamic : List Node → ℕ → ℕ → List Node
set_dynamic s r count = cond (eqb r 1) s (dynamic_at (make_seen s r) r count)

-- `set_info` with Array(count), of a record that is there, as above
unfoldable pub set_array : List Node → ℕ → ℕ → List Node
set_array s r count = cond (eqb r 1) s (array_at (make_seen s r) r count)

-- how many arrays stand on the path of r, itself included (`array_in_path`, decision D22); n is as many turns as that
-- can take
unfoldable pub arrays_up : ℕ → List Node → ℕ → ℕ
arrays_up zero s r = 0
arrays_up (suc n) s r =
    cond (eqb r 0) 0 (cond (eqb (node_of s r).kind kind_array) 1 0 + arrays_up n s (node_of s r).parent)

-- a parent has a lower number, so r turns are enough
unfoldable pub arrays_in_path : List Node → ℕ → ℕ
arrays_in_path s r = arrays_up r s r

-- one of the list passes the test
abbrev pub any_of : (ℕ → Bool) → List ℕ → Bool
any_of test [] = false
any_of test (r ∷ rs) = test r || any_of test rs

-- has r, if it is seen, a kind, or does one of its children pass this test? n is as many levels as there can be
unfoldable pub dynamic_below : ℕ → List Node → ℕ → Bool
dynamic_below zero s r = false
dynamic_below (suc n) s r =
    eqb (node_of s r).seen 1 && (not (eqb (node_of s r).kind 0) || any_of (dynamic_below n s) (kids_in s r))

-- `Info::has_dynamic`; a child has a higher number, so there are no more levels than nodes
unfoldable pub has_dynamic : List Node → ℕ → Bool
has_dynamic s r = dynamic_below (length s) s r
