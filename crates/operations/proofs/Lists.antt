-- Operations one after another: what holds of each of a list of them, and how a run goes on.
use Prim.Native.Nat.{ℕ, ◌≤◌}
use mathlib.Core.Path.{◌≡◌, refl, sym, ap, ◌∙◌}
use mathlib.Core.List.{List, [], ◌∷◌, ◌++◌}
use native.Mathlib.Omega.{arith}
use lib.ListN.{length, take}
use lib.Seq.{take_all, take-take}
use Rattle.std.specs.Prelude.{Option, None, Some}
use Rattle.facts.specs.State.{Node, paths}
use Rattle.paths.proofs.Kept.{length_paths}
use Rattle.operations.specs.declared.FullPath.{FullPath}
use Rattle.operations.specs.declared.Operation.{Operation}
use Rattle.operations.specs.declared.Operation.TheVariants.{Nothing, ClearRangeHint, ClearRangeHints}
use Rattle.operations.specs.declared.Operation.TheVariants.{MarkNotBool, InsertNotBool, GetOrCreate}
use Rattle.operations.specs.declared.Operation.TheVariants.{SetTname, SetDynamic, SetArray}
use Rattle.operations.specs.Run.{run, run_all}
use Rattle.operations.specs.Asks.{IsUsed, Reaches, makes}
use Rattle.operations.proofs.Changes.{AddsMade, run_adds}
use Rattle.operations.proofs.Sizes.{run_grows}

-- each of the operations is such
abbrev pub Each : (Operation → Type 0) → List Operation → Type 0
Each P [] = Unit {0}
Each P (o ∷ os) = P o × Each P os

pub each_map : (P Q : Operation → Type 0) → ((o : Operation) → P o → Q o) → (os : List Operation) → Each P os
    → Each Q os
each_map P Q f [] E = tt
each_map P Q f (o ∷ os) E = (f o E.0, each_map P Q f os E.1)

-- a used record stays used
pub used_more : (used used' p : ℕ) → used ≤ used' → IsUsed used p → IsUsed used' p
used_more used used' p h U = record { from = U.from; to = let t = U.to in omega arith }

pub reaches_more : (used used' : ℕ) → used ≤ used' → (o : Operation) → Reaches used o → Reaches used' o
reaches_more used used' h Nothing R = tt
reaches_more used used' h (ClearRangeHint p k block) R = used_more used used' p h R
reaches_more used used' h ClearRangeHints R = tt
reaches_more used used' h (MarkNotBool p k) R = used_more used used' p h R
reaches_more used used' h (InsertNotBool p k) R = used_more used used' p h R
reaches_more used used' h (GetOrCreate p k) R = used_more used used' p h R
reaches_more used used' h (SetTname p k name confidence) R = used_more used used' p h R
reaches_more used used' h (SetDynamic p k count) R = used_more used used' p h R
reaches_more used used' h (SetArray r count) R = used_more used used' r h R

pub each_more : (used used' : ℕ) → used ≤ used' → (os : List Operation) → Each (Reaches used) os
    → Each (Reaches used') os
each_more used used' h os E = each_map (Reaches used) (Reaches used') (reaches_more used used' h) os E

-- a run of two lists is that of the first, and then of the second
pub run_append : (s : List Node) (os qs : List Operation) → run_all s (os ++ qs) ≡ run_all (run_all s os) qs
unfolding run_all
run_append s [] qs = refl
run_append s (o ∷ os) qs = run_append (run s o) os qs

-- no record is lost
pub run_all_grows : (s : List Node) (os : List Operation) → length s ≤ length (run_all s os)
unfolding run_all
run_all_grows s [] = omega arith
run_all_grows s (o ∷ os) = let a = run_grows s o in let b = run_all_grows (run s o) os in omega arith

-- and no path moves
pub run_paths : (s : List Node) (o : Operation) → take (length s) (paths (run s o)) ≡ paths s
run_paths s o = go (makes o) (run_adds s o)
  where
    go : (m : Option FullPath) → AddsMade s m (run s o) → take (length s) (paths (run s o)) ≡ paths s
    go None A =
        ap (take (length s)) A.kept ∙ take_all (length s) (paths s) (let e = length_paths s in omega arith)
    go (Some f) A = A.kept

pub run_all_paths : (s : List Node) (os : List Operation) → take (length s) (paths (run_all s os)) ≡ paths s
unfolding run_all
run_all_paths s [] = take_all (length s) (paths s) (let e = length_paths s in omega arith)
run_all_paths s (o ∷ os) =
    sym (take-take (length s) (length (run s o)) (paths (run_all (run s o) os)) (run_grows s o))
    ∙ ap (take (length s)) (run_all_paths (run s o) os) ∙ run_paths s o
