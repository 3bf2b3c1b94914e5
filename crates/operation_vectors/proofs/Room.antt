-- What the tests of the program say.
use Prim.Native.Nat.{ℕ, ◌-◌, ◌≤◌, ◌<◌}
use mathlib.Core.Path.{◌≡◌, refl, sym}
use mathlib.Core.List.{List, [], ◌∷◌}
use native.Mathlib.Omega.{arith}
use lib.ListN.{length}
use Rattle.std.specs.Prelude.{Ok}
use Rattle.limits.specs.Refusal.{answer_number}
use Rattle.facts.specs.Count.{CountAnswer}
use Rattle.facts.specs.Fresh.{fresh_table, count_of}
use Rattle.facts.specs.State.{Node, root, encode}
use Rattle.facts.proofs.Counts.{answer_is, count_counted}
use Rattle.facts.proofs.Lone.{fresh_sound}
use Rattle.paths.specs.Find.{find_in}
use Rattle.paths.specs.Adds.{missing}
use Rattle.paths.specs.Shape.{Shaped}
use Rattle.paths.proofs.Finds.{missing_none}
use Rattle.paths.proofs.Frame.{sound_shaped}

-- there is room for the path, if it fits with what it lacks
pub room : (s : List Node) (p k used n m : ℕ) → m ≡ missing s p k → m ≤ n - used → find_in s p k ≡ 0 → used < n
room s p k used n m e h z = let o = missing_none s p k (find_in s p k) refl z in omega arith

-- a fresh table is one that the operations take
pub fresh_shaped : (N : ℕ) (t t' : List ℕ) → CountAnswer (length t) (answer_number (Ok N)) (count_of (Ok N)) → t' ≡ fresh_table (Ok N) t → Shaped t' 1 N
fresh_shaped N t t' A f =
    let C = count_counted (length t) N (sym (answer_is (length t) (Ok N) A)) in
    let g : t' ≡ encode N (root ∷ []) = f in
    rw g (sound_shaped (encode N (root ∷ [])) 1 N (fresh_sound N C.some))
