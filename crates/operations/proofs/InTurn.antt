-- Operations run in turn: that all fit means that the first does.
use Rattle.std.proofs.Common.{◌≡◌, ℕ, ◌≤◌, List, ◌∷◌, length, arith}
use Rattle.facts.specs.State.{Node}
use Rattle.operations.specs.declared.Operation.{Operation}
use Rattle.operations.specs.Run.{run, run_all}
use Rattle.operations.proofs.Lists.{run_all_grows}

pub first_fits : (n : ℕ) (s : List Node) (o : Operation) (os : List Operation) → length (run_all s (o ∷ os)) ≤ n
    → length (run s o) ≤ n
unfolding run_all
first_fits n s o os fits = let g = run_all_grows (run s o) os in omega arith

-- and the others, on the facts that it leaves
pub next_fits : (n : ℕ) (s s' : List Node) (o : Operation) (os : List Operation) → s' ≡ run s o → length (run_all s (o ∷ os)) ≤ n
    → length (run_all s' os) ≤ n
unfolding run_all
next_fits n s s' o os e fits = rw e fits
