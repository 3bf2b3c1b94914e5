-- Operations at and below one child of the root: the facts at and below every other one agree, and the root stays.
use Prim.Native.Nat.{ℕ}
use mathlib.Core.Path.{◌≡◌}
use mathlib.Core.List.{List, [], ◌∷◌}
use lib.ListN.{length}
use Rattle.facts.specs.Formed.{Formed}
use Rattle.facts.specs.State.{Node, node_of}
use Rattle.paths.specs.Path.{AgreeUnder}
use Rattle.paths.proofs.Sounds.{formed_ordered}
use Rattle.paths.proofs.Changing.{agree_else, root_stays}
use Rattle.operations.specs.declared.Operation.{Operation}
use Rattle.operations.specs.Run.{run, run_all}
use Rattle.operations.specs.Asks.{Reaches}
use Rattle.operations.specs.Frame.{NamesBelow}
use Rattle.operations.proofs.Lists.{Each}
use Rattle.operations.proofs.Below.{run_below, run_all_below}

module _ (a : ℕ) (s : List Node) (F : Formed s) where
  module _ (o : Operation) (R : Reaches (length s) o) (B : NamesBelow a s o) where
    pub run_agree : (b : ℕ) → (a ≡ b → ⊥) → AgreeUnder (b ∷ []) s (run s o)
    run_agree b n = agree_else a b s (run s o) (run_below a s o F R B) n

    pub run_root : node_of (run s o) 1 ≡ node_of s 1
    run_root = root_stays a s (run s o) (run_below a s o F R B) (formed_ordered s F).some

  module _ (os : List Operation) (R : Each (Reaches (length s)) os) (B : Each (NamesBelow a s) os) where
    pub run_all_agree : (b : ℕ) → (a ≡ b → ⊥) → AgreeUnder (b ∷ []) s (run_all s os)
    run_all_agree b n = agree_else a b s (run_all s os) (run_all_below a s os F R B) n

    pub run_all_root : node_of (run_all s os) 1 ≡ node_of s 1
    run_all_root = root_stays a s (run_all s os) (run_all_below a s os F R B) (formed_ordered s F).some
