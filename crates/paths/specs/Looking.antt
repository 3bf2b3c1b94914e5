-- The number of a path; no outcome is written with these definitions.
use Rattle.std.specs.Prelude.{ℕ, cond, List, [], ◌∷◌, ◌==◌}
use Rattle.facts.specs.State.{Node}
use Rattle.paths.specs.Find.{find_in}

-- the number of the node whose path is that of r with these keys at its end, looked up key by key; 0 for none
unfoldable pub number_from : List Node → ℕ → List ℕ → ℕ
number_from s r [] = r
number_from s r (k ∷ ks) = cond (find_in s r k == 0) 0 (number_from s (find_in s r k) ks)

-- the number of the node with this path, from the root on; 0 for none
abbrev pub number_at : List Node → List ℕ → ℕ
number_at s path = number_from s 1 path
