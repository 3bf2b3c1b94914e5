-- The sum and the depth at a path and below it, one level down: a child has a higher number, so that more levels than
-- there are numbers tell nothing more.
use Prim.Native.Nat.{ℕ, zero, suc, ◌+◌, ◌-◌, ◌≤◌, ◌<◌}
use mathlib.Core.Path.{◌≡◌, refl, ap}
use mathlib.Core.Bool.{Bool, cond, not, ◌&&◌, ◌||◌}
use mathlib.Core.Logic.{inl, inr}
use mathlib.Core.List.{List, [], ◌∷◌}
use native.Mathlib.Omega.{arith}
use lib.Dec.{eqb, leb}
use lib.ListN.{length}
use Rattle.limits.specs.Limits.{depth_max}
use Rattle.facts.specs.Links.{In}
use Rattle.facts.specs.State.{Node, node_of, kids_in}
use Rattle.list.specs.Seen.{last_word}
use Rattle.list.specs.Walk.{sum_of, all_of, spend_below, shallow_below}
use Rattle.budget.proofs.KidLaws.{kid_child}

-- two sums, and two tests, that agree on the list
pub sum_same : (f g : ℕ → ℕ) (ms : List ℕ) → ((m : ℕ) → In m ms → f m ≡ g m) → sum_of f ms ≡ sum_of g ms
sum_same f g [] e = refl
sum_same f g (m ∷ ms) e = λ i. e m (inl refl) i + sum_same f g ms (λ x j. e x (inr j)) i

pub all_same : (f g : ℕ → Bool) (ms : List ℕ) → ((m : ℕ) → In m ms → f m ≡ g m) → all_of f ms ≡ all_of g ms
all_same f g [] e = refl
all_same f g (m ∷ ms) e = λ i. e m (inl refl) i && all_same f g ms (λ x j. e x (inr j)) i

module _ (s : List Node) where
  -- what r alone says, with the answer for its children
  abbrev paid : ℕ → ℕ → ℕ
  paid r sum = cond (eqb (node_of s r).seen 1) (suc (last_word s r) + sum) 0

  abbrev passed : ℕ → ℕ → Bool → Bool
  passed depth r rest = not (eqb (node_of s r).seen 1) || (leb depth depth_max && rest)

  spend_levels : (d e r : ℕ) → length s - r < d → length s - r < e → spend_below d s r ≡ spend_below e s r
  unfolding spend_below
  spend_levels zero e r hd he = absurd (omega arith)
  spend_levels (suc d) zero r hd he = absurd (omega arith)
  spend_levels (suc d) (suc e) r hd he =
      ap (paid r) (sum_same (spend_below d s) (spend_below e s) (kids_in s r)
      (λ m i. let K = kid_child s r m i in let a = K.above in let b = K.within in spend_levels d e m (omega arith) (omega arith)))

  shallow_levels : (d e depth r : ℕ) → length s - r < d → length s - r < e → shallow_below d s depth r ≡ shallow_below e s depth r
  unfolding shallow_below
  shallow_levels zero e depth r hd he = absurd (omega arith)
  shallow_levels (suc d) zero depth r hd he = absurd (omega arith)
  shallow_levels (suc d) (suc e) depth r hd he =
      ap (passed depth r) (all_same (shallow_below d s (suc depth)) (shallow_below e s (suc depth)) (kids_in s r)
      (λ m i. let K = kid_child s r m i in let a = K.above in let b = K.within in shallow_levels d e (suc depth) m (omega arith) (omega arith)))

  module _ (r : ℕ) (r1 : 1 ≤ r) (rl : r ≤ length s) where
    pub spend_is : spend_below (length s) s r ≡ paid r (sum_of (spend_below (length s) s) (kids_in s r))
    unfolding spend_below
    spend_is = spend_levels (length s) (suc (length s)) r (omega arith) (omega arith)

    pub shallow_is : (depth : ℕ) → shallow_below (length s) s depth r ≡ passed depth r (all_of (shallow_below (length s) s (suc depth)) (kids_in s r))
    unfolding shallow_below
    shallow_is depth = shallow_levels (length s) (suc (length s)) depth r (omega arith) (omega arith)
