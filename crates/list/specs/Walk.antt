-- The sum and the depth once more, at a fact and below it, as a walk that goes from a fact to its children comes to
-- them. (`spend_walk`, `shallow_walk`: from the root they are the sum and the depth over all facts.)
use Rattle.std.specs.Prelude.{ℕ, zero, suc, ◌+◌, Bool, true, cond, not, ◌&&◌, ◌||◌, List, [], ◌∷◌, eqb, leb}
use Rattle.limits.specs.Limits.{depth_max}
use Rattle.facts.specs.State.{Node, node_of, kids_in}
use Rattle.list.specs.Seen.{last_word}

-- the sum of f over the list
abbrev pub sum_of : (ℕ → ℕ) → List ℕ → ℕ
sum_of f [] = 0
sum_of f (r ∷ rs) = f r + sum_of f rs

-- each of the list passes the test
abbrev pub all_of : (ℕ → Bool) → List ℕ → Bool
all_of test [] = true
all_of test (r ∷ rs) = test r && all_of test rs

-- the sum over r, if it is seen, and all below it; n is as many levels as there can be
unfoldable pub spend_below : ℕ → List Node → ℕ → ℕ
spend_below zero s r = 0
spend_below (suc n) s r = cond (eqb (node_of s r).seen 1) (suc (last_word s r) + sum_of (spend_below n s) (kids_in s r)) 0

-- does r, at depth d if it is seen, lie no deeper than 64, nor any below it? n as above
unfoldable pub shallow_below : ℕ → List Node → ℕ → ℕ → Bool
shallow_below zero s d r = true
shallow_below (suc n) s d r =
    not (eqb (node_of s r).seen 1) || (leb d depth_max && all_of (shallow_below n s (suc d)) (kids_in s r))
