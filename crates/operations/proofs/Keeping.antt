-- Formed facts stay formed, and a sound table stays sound.
use Prim.Native.Nat.{ℕ}
use mathlib.Core.List.{List, [], ◌∷◌}
use lib.ListN.{length}
use Rattle.facts.specs.State.{Node, nodes}
use Rattle.facts.specs.Sound.{Sound}
use Rattle.facts.specs.Formed.{Formed}
use Rattle.facts.proofs.Encode.{length_nodes}
use Rattle.paths.specs.Make.{ensure}
use Rattle.paths.specs.Represents.{Represents}
use Rattle.paths.proofs.Reach.{ensure_range}
use Rattle.paths.proofs.Sounds.{keeps_sound, formed_ensure, formed_create}
use Rattle.marks.proofs.NameSounds.{formed_set_tname, formed_insert_not_bool, formed_mark_not_bool}
use Rattle.marks.proofs.NameSounds.{formed_clear_range_hint}
use Rattle.marks.proofs.HintSounds.{formed_clear_range_hints}
use Rattle.kinds.proofs.KindSounds.{formed_set_dynamic, formed_set_array}
use Rattle.operations.specs.declared.Operation.{Operation}
use Rattle.operations.specs.declared.Operation.TheVariants.{Nothing, ClearRangeHint, ClearRangeHints}
use Rattle.operations.specs.declared.Operation.TheVariants.{MarkNotBool, InsertNotBool, GetOrCreate}
use Rattle.operations.specs.declared.Operation.TheVariants.{SetTname, SetDynamic, SetArray}
use Rattle.operations.specs.Run.{run, run_all}
use Rattle.operations.specs.Asks.{Reaches, Stores}
use Rattle.operations.proofs.Sizes.{run_grows}
use Rattle.operations.proofs.Lists.{Each, each_more}

pub run_formed : (s : List Node) (o : Operation) → Formed s → Reaches (length s) o → Stores o → Formed (run s o)
unfolding run
run_formed s Nothing F R T = F
run_formed s (ClearRangeHint p k block) F R T = formed_clear_range_hint s p k F R.from block
run_formed s ClearRangeHints F R T = formed_clear_range_hints s F
run_formed s (MarkNotBool p k) F R T = formed_mark_not_bool s p k F R.from R.to
run_formed s (InsertNotBool p k) F R T = formed_insert_not_bool s p k F R.from R.to
run_formed s (GetOrCreate p k) F R T = formed_create s p k F R.from R.to
run_formed s (SetTname p k name confidence) F R T =
    formed_set_tname s p k F R.from R.to name confidence T.0 T.1 T.2
run_formed s (SetDynamic p k count) F R T =
    let m = ensure s p k in
    let h = ensure_range s p k in
    formed_set_dynamic m.state m.number count (formed_ensure s p k F R.from R.to) h.0 h.1 T
run_formed s (SetArray r count) F R T = formed_set_array s r count F R.from R.to T.0 T.1

pub run_all_formed : (s : List Node) (os : List Operation) → Formed s → Each (Reaches (length s)) os → Each Stores os
    → Formed (run_all s os)
unfolding run_all
run_all_formed s [] F R T = F
run_all_formed s (o ∷ os) F R T =
    run_all_formed (run s o) os (run_formed s o F R.0 T.0)
    (each_more (length s) (length (run s o)) (run_grows s o) os R.1) T.1

-- by its contract
pub run_sound : (t t' : List ℕ) (used used' n : ℕ) (o : Operation) → Sound t used n → Reaches used o → Stores o
    → Represents t' used' n (run (nodes t used) o) → Sound t' used' n
run_sound t t' used used' n o S R T H =
    keeps_sound (λ s. run s o) t t' used used' n
    (λ F. run_formed (nodes t used) o F (rw (length_nodes t used) R) T) S H
