-- Making a path and making it seen: the Rust's `get_or_create`. "New records .. take the next free numbers".
use Rattle.std.specs.Prelude.{ℕ, zero, suc, ◌+◌, cond, List, [], ◌∷◌, ◌++◌, length, ◌==◌}
use Rattle.limits.specs.Fields as field
use Rattle.facts.specs.State.{Node, bare, node_of}
use Rattle.paths.specs.Update.{update}
use Rattle.paths.specs.Find.{find_in}

-- a state, and the number of a node in it
pub record Made : Type 0 where
  pub state : List Node
  pub number : ℕ

-- the path of p with the key k, added under the next number if it is not there, unseen then
unfoldable pub ensure : List Node → ℕ → ℕ → Made
ensure s p k =
    cond (find_in s p k == 0)
    (record { state = s ++ bare p k ∷ []; number = length s + 1 })
    (record { state = s; number = find_in s p k })

-- the path made seen, and each path that it continues, up to the root; n is as many turns as that can take (decision
-- D35)
unfoldable pub seen_up : ℕ → List Node → ℕ → List Node
seen_up zero s r = s
seen_up (suc n) s r = cond (r == 0) s (seen_up n (update s r field.seen 1) (node_of s r).parent)

-- a parent has a lower number, so r turns are enough
unfoldable pub make_seen : List Node → ℕ → List Node
make_seen s r = seen_up r s r

-- `get_or_create`
unfoldable pub get_or_create : List Node → ℕ → ℕ → Made
get_or_create s p k =
    record { state = make_seen (ensure s p k).state (ensure s p k).number; number = (ensure s p k).number }
