-- Range hints, which are range names, over the state: `clear_range_hint`, `has_range_hint`, `clear_range_hints`.
use Rattle.std.specs.Prelude.{ℕ, max, Bool, cond, not, ◌&&◌, List, map, eqb}
use Rattle.limits.specs.Codes as code
use Rattle.limits.specs.Fields as field
use Rattle.facts.specs.State.{Node, node_of}
use Rattle.paths.specs.Update.{with_field, update}
use Rattle.paths.specs.Find.{get_mut}
use Rattle.marks.specs.Names.{is_range, drop_name}

-- `clear_range_hint` at node r: blocked if asked, and a range name dropped
abbrev pub clear_at : List Node → ℕ → Bool → List Node
clear_at s r block =
    cond (is_range (node_of s r))
    (drop_name (update s r field.blocked (max (node_of s r).blocked (cond block 1 0))) r)
    (update s r field.blocked (max (node_of s r).blocked (cond block 1 0)))

-- `clear_range_hint`: only where `get_mut` finds the path
unfoldable pub clear_range_hint : List Node → ℕ → ℕ → Bool → List Node
clear_range_hint s p k block = cond (eqb (get_mut s p k) 0) s (clear_at s (get_mut s p k) block)

-- `has_range_hint`
unfoldable pub has_range_hint : List Node → ℕ → ℕ → Bool
has_range_hint s p k = not (eqb (get_mut s p k) 0) && is_range (node_of s (get_mut s p k))

-- a node with its range name dropped
abbrev pub without_range : Node → Node
without_range n = cond (is_range n) (with_field field.confidence 0 (with_field field.name code.no_name n)) n

-- `Info::clear_range_hints` of the root: over all nodes, since an unseen record of a sound table has no name (decision
-- D36)
unfoldable pub clear_range_hints : List Node → List Node
clear_range_hints s = map without_range s
