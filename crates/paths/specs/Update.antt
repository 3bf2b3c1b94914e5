-- A state with one field of one node changed, as the Rust stores into the `Info` that `get_mut` or `get_or_create`
-- gives. The fields are "key, parent, child, next, seen, not-bool, blocked, kind, count, name, confidence"; those up to
-- next never change by it.
use Rattle.std.specs.Prelude.{ℕ, zero, suc, cond, List, ◌==◌, slice_set}
use Rattle.limits.specs.Fields as field
use Rattle.facts.specs.State.{Node, node_of}

-- the node with field f, from seen to confidence, set to v
unfoldable pub with_field : ℕ → ℕ → Node → Node
with_field f v n = record {
  key = n.key;
  parent = n.parent;
  seen = cond (f == field.seen) v n.seen;
  not_bool = cond (f == field.not_bool) v n.not_bool;
  blocked = cond (f == field.blocked) v n.blocked;
  kind = cond (f == field.kind) v n.kind;
  count = cond (f == field.count) v n.count;
  name = cond (f == field.name) v n.name;
  confidence = cond (f == field.confidence) v n.confidence;
}

-- the state with field f of node r set to v; number 0 is none's
unfoldable pub update : List Node → ℕ → ℕ → ℕ → List Node
update s zero f v = s
update s (suc r) f v = slice_set s r (with_field f v (node_of s (suc r)))
