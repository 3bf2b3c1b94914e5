-- Question 2's tests of one record, apart from its links.
use Rattle.std.specs.Prelude.{Bool, cond, ◌&&◌, ◌||◌, eqb, leb}
use Rattle.limits.specs.Between.{between}
use Rattle.limits.specs.Limits.{kind_dynamic, kind_array, array_count_max, dynamic_count_max, confidence_max}
use Rattle.limits.specs.Codes.{no_name}
use Rattle.names.specs.Elementary.{is_name}
use Rattle.facts.specs.State.{Node}

-- "Flags are 0 or 1.": seen, not-bool and blocked (decision D32)
abbrev pub are_flags : Node → Bool
are_flags n = leb n.seen 1 && leb n.not_bool 1 && leb n.blocked 1

-- "zero in the last five fields"
abbrev pub is_bare : Node → Bool
is_bare n = eqb n.blocked 0 && eqb n.kind 0 && eqb n.count 0 && eqb n.name 0 && eqb n.confidence 0

-- "an unseen one has zero in the last five fields"
abbrev pub is_bare_unseen : Node → Bool
is_bare_unseen n = leb 1 n.seen || is_bare n

-- "Kind is at most 2."
abbrev pub is_kind : Node → Bool
is_kind n = leb n.kind kind_array

-- "Confidence is 1 to 20 with a name, else 0."
abbrev pub is_confidence : Node → Bool
is_confidence n = cond (eqb n.name no_name) (eqb n.confidence 0) (between 1 confidence_max n.confidence)

-- "Count is 1 to 99 for an array, at most 134,217,727 for dynamic, else 0."
abbrev pub is_count : Node → Bool
is_count n =
    cond (eqb n.kind kind_array) (between 1 array_count_max n.count)
    (cond (eqb n.kind kind_dynamic) (leb n.count dynamic_count_max) (eqb n.count 0))

-- "A record's name is 0 or a code other than 5 and tuples"; "uint and int have 8 to 256 bits in eights, fixed bytes 1
-- to 32."
abbrev pub is_named : Node → Bool
is_named n = eqb n.name no_name || is_name n.name
