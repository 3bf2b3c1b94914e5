-- A range name dropped at one node. In these words one function promises another; no outcome is written with them.
use Rattle.std.specs.Prelude.{ℕ, cond, List}
use Rattle.facts.specs.State.{Node, node_of}
use Rattle.marks.specs.Names.{is_range, drop_name}

-- that done at node r
abbrev pub drop_range : List Node → ℕ → List Node
drop_range s r = cond (is_range (node_of s r)) (drop_name s r) s
