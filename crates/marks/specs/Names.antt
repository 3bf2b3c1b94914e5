-- Names and not-bool marks, over the state: `set_tname`, `mark_not_bool` and the range rule's own mark. p is the record
-- of a label's path and k its offset, so the fact is the one of that path with the key k at its end.
use Rattle.std.specs.Prelude.{ℕ, Bool, cond, not, ◌&&◌, ◌||◌, List, eqb, leb}
use Rattle.limits.specs.Codes as code
use Rattle.limits.specs.Fields as field
use Rattle.limits.specs.Confidences.{by_range}
use Rattle.facts.specs.State.{Node, node_of}
use Rattle.paths.specs.Update.{update}
use Rattle.paths.specs.Find.{find_in, get_mut}
use Rattle.paths.specs.Make.{Made, ensure, get_or_create}

-- a range name: one of confidence 6
abbrev pub is_range : Node → Bool
is_range n = eqb n.confidence by_range

-- the state with node r's name dropped
abbrev pub drop_name : List Node → ℕ → List Node
drop_name s r = update (update s r field.name code.no_name) r field.confidence 0

-- the state with node r's name set
abbrev pub give_name : List Node → ℕ → ℕ → ℕ → List Node
give_name s r name confidence = update (update s r field.name name) r field.confidence confidence

-- is there such a path, and is it marked not-bool?
abbrev pub is_not_bool : List Node → ℕ → ℕ → Bool
is_not_bool s p k = not (eqb (find_in s p k) 0) && eqb (node_of s (find_in s p k)).not_bool 1

-- the name at node r, unless "A blocked range name stops", or "An equal or lower one never replaces"
abbrev pub name_at : List Node → ℕ → ℕ → ℕ → List Node
name_at s r name confidence =
    cond (eqb confidence by_range && eqb (node_of s r).blocked 1) s
    (cond (not (eqb (node_of s r).name code.no_name) && leb confidence (node_of s r).confidence) s
    (give_name s r name confidence))

abbrev pub name_made : Made → ℕ → ℕ → List Node
name_made m name confidence = name_at m.state m.number name confidence

-- `set_tname`: "Bool and range names stop at a not-bool mark before any record is made seen. A blocked range name stops
-- after that." (decision D21)
unfoldable pub set_tname : List Node → ℕ → ℕ → ℕ → ℕ → List Node
set_tname s p k name confidence =
    cond ((eqb name code.bool || eqb confidence by_range) && is_not_bool s p k) s
    (name_made (get_or_create s p k) name confidence)

-- a not-bool mark alone, as the range rule sets it: it drops no name, and makes an unseen path where there is none
abbrev pub mark_made : Made → List Node
mark_made m = update m.state m.number field.not_bool 1

unfoldable pub insert_not_bool : List Node → ℕ → ℕ → List Node
insert_not_bool s p k = mark_made (ensure s p k)

-- a bool or a range name dropped at node r
abbrev pub drop_bool_at : List Node → ℕ → List Node
drop_bool_at s r = cond (eqb (node_of s r).name code.bool || is_range (node_of s r)) (drop_name s r) s

-- the same at the path, if `get_mut` finds it
abbrev pub drop_bool : List Node → ℕ → ℕ → List Node
drop_bool s p k = cond (eqb (get_mut s p k) 0) s (drop_bool_at s (get_mut s p k))

-- `mark_not_bool`
unfoldable pub mark_not_bool : List Node → ℕ → ℕ → List Node
mark_not_bool s p k = insert_not_bool (drop_bool s p k) p k
