-- Which paths an operation adds: the one that it makes, if it was missing, and no other; none moves.
use Prim.Native.Nat.{ℕ}
use mathlib.Core.List.{List}
use Rattle.std.specs.Prelude.{Option, None, Some}
use Rattle.facts.specs.State.{Node}
use Rattle.paths.specs.Make.{ensure}
use Rattle.paths.specs.Adds.{SamePaths, AddsPath}
use Rattle.paths.proofs.Alike.{alike_refl}
use Rattle.paths.proofs.Adds.{alike_same, alike_adds, adds_create}
use Rattle.marks.proofs.Counts.{adds_set_tname, adds_insert_not_bool, adds_mark_not_bool, same_clear_range_hint}
use Rattle.marks.proofs.HintSounds.{same_clear_range_hints}
use Rattle.kinds.proofs.Counts.{alike_set_dynamic, same_set_array}
use Rattle.operations.specs.declared.FullPath.{FullPath}
use Rattle.operations.specs.declared.Operation.{Operation}
use Rattle.operations.specs.declared.Operation.TheVariants.{Nothing, ClearRangeHint, ClearRangeHints}
use Rattle.operations.specs.declared.Operation.TheVariants.{MarkNotBool, InsertNotBool, GetOrCreate}
use Rattle.operations.specs.declared.Operation.TheVariants.{SetTname, SetDynamic, SetArray}
use Rattle.operations.specs.Run.{run}
use Rattle.operations.specs.Asks.{Reaches, PathReaches, makes}

-- the record that a made path continues is used
pub makes_reaches : (used : ℕ) (o : Operation) → Reaches used o → PathReaches used (makes o)
makes_reaches used Nothing R = tt
makes_reaches used (ClearRangeHint p k block) R = tt
makes_reaches used ClearRangeHints R = tt
makes_reaches used (MarkNotBool p k) R = R
makes_reaches used (InsertNotBool p k) R = R
makes_reaches used (GetOrCreate p k) R = R
makes_reaches used (SetTname p k name confidence) R = R
makes_reaches used (SetDynamic p k count) R = R
makes_reaches used (SetArray r count) R = tt

pub adds_dynamic : (s : List Node) (p k count : ℕ) → AddsPath s p k (run s (SetDynamic p k count))
unfolding run
adds_dynamic s p k count =
    let m = ensure s p k in alike_adds s p k _ (alike_set_dynamic m.state m.number count)

-- s' has the paths of s and the one that is made, if one is
abbrev pub AddsMade : List Node → Option FullPath → List Node → Type 0
AddsMade s None s' = SamePaths s s'
AddsMade s (Some f) s' = AddsPath s f.path f.offset s'

pub run_adds : (s : List Node) (o : Operation) → AddsMade s (makes o) (run s o)
unfolding run
run_adds s Nothing = alike_same s s (alike_refl s)
run_adds s (ClearRangeHint p k block) = same_clear_range_hint s p k block
run_adds s ClearRangeHints = same_clear_range_hints s
run_adds s (MarkNotBool p k) = adds_mark_not_bool s p k
run_adds s (InsertNotBool p k) = adds_insert_not_bool s p k
run_adds s (GetOrCreate p k) = adds_create s p k
run_adds s (SetTname p k name confidence) = adds_set_tname s p k name confidence
run_adds s (SetDynamic p k count) = adds_dynamic s p k count
run_adds s (SetArray r count) = same_set_array s r count
