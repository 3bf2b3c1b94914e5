-- Room for the path that an operation makes.
use Prim.Native.Nat.{ℕ, ◌≤◌, ◌<◌}
use mathlib.Core.Path.{◌≡◌, refl, sym, subst}
use mathlib.Core.List.{List}
use native.Mathlib.Omega.{arith}
use lib.ListN.{length}
use Rattle.std.specs.Prelude.{Option, Some}
use Rattle.facts.specs.State.{Node, nodes}
use Rattle.facts.proofs.Encode.{length_nodes}
use Rattle.paths.specs.Find.{find_in}
use Rattle.paths.specs.Adds.{AddsPath}
use Rattle.paths.proofs.Finds.{missing_none}
use Rattle.operations.specs.declared.FullPath.{FullPath}
use Rattle.operations.specs.declared.Operation.{Operation}
use Rattle.operations.specs.Run.{run}
use Rattle.operations.specs.Asks.{makes}
use Rattle.operations.proofs.Changes.{AddsMade, run_adds}

-- where the facts with the path fit, there is a record for it
module _ (t : List ℕ) (u n : ℕ) where
  pub path_room : (p k : ℕ) (s' : List Node) → AddsPath (nodes t u) p k s' → length s' ≤ n → find_in (nodes t u) p k ≡ 0 → u < n
  path_room p k s' A fits z =
      let one = missing_none (nodes t u) p k 0 (sym z) refl in
      let size = length_nodes t u in
      let e = A.size in
      omega arith

  pub run_room : (o : Operation) (f : FullPath) → makes o ≡ Some f → length (run (nodes t u) o) ≤ n
      → find_in (nodes t u) f.path f.offset ≡ 0 → u < n
  run_room o f e fits =
      let s = nodes t u in
      path_room f.path f.offset (run s o) (subst (λ (m : Option FullPath). AddsMade s m (run s o)) e (run_adds s o)) fits
