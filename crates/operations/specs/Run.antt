-- What each operation does to the state: the Rust's own, of `ArgsResult` and, for all hints, of `Info`; `InsertNotBool`
-- is `analyze`'s own insertion, the last two are `set_info`.
use Rattle.std.specs.Prelude.{ℕ, List, [], ◌∷◌}
use Rattle.facts.specs.State.{Node}
use Rattle.paths.specs.Make.{Made, ensure, get_or_create}
use Rattle.marks.specs.Names.{set_tname, insert_not_bool, mark_not_bool}
use Rattle.marks.specs.Hints.{clear_range_hints, clear_range_hint}
use Rattle.kinds.specs.Kinds.{set_dynamic, set_array}
use Rattle.operations.specs.declared.Operation.{Operation}
use Rattle.operations.specs.declared.Operation.TheVariants.{Nothing, ClearRangeHint, ClearRangeHints}
use Rattle.operations.specs.declared.Operation.TheVariants.{MarkNotBool, InsertNotBool, GetOrCreate}
use Rattle.operations.specs.declared.Operation.TheVariants.{SetTname, SetDynamic, SetArray}

-- `set_info` with Dynamic(count) of a path that may not be there
abbrev pub dynamic_made : Made → ℕ → List Node
dynamic_made made count = set_dynamic made.state made.number count

-- the state after an operation
unfoldable pub run : List Node → Operation → List Node
run s Nothing = s
run s (ClearRangeHint p k block) = clear_range_hint s p k block
run s ClearRangeHints = clear_range_hints s
run s (MarkNotBool p k) = mark_not_bool s p k
run s (InsertNotBool p k) = insert_not_bool s p k
run s (GetOrCreate p k) = (get_or_create s p k).state
run s (SetTname p k name confidence) = set_tname s p k name confidence
run s (SetDynamic p k count) = dynamic_made (ensure s p k) count
run s (SetArray r count) = set_array s r count

-- after a list of them, run in order
unfoldable pub run_all : List Node → List Operation → List Node
run_all s [] = s
run_all s (o ∷ os) = run_all (run s o) os
