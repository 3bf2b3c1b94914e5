-- From the root the walk comes to each fact once: its sum is the sum over all facts.
use Prim.Native.Nat.{ℕ, zero, suc, ◌+◌, ◌≤◌, ◌<◌}
use mathlib.Core.Path.{◌≡◌, refl, sym, ap, ◌∙◌}
use mathlib.Core.Bool.{Bool, true, false, cond}
use mathlib.Core.Logic.{inl, inr, ⊎_elim}
use mathlib.Core.List.{List, [], ◌∷◌}
use native.Mathlib.Omega.{arith}
use native.Mathlib.Nat.{eq-or-lt_of_le}
use lib.Dec.{eqb, leb}
use lib.ListN.{length}
use borrow.Author.Tests.{ne_eqb, eqb-false, le-leb, lt-leb}
use Rattle.facts.specs.Links.{In}
use Rattle.facts.specs.State.{Node, node_of, kids_in}
use Rattle.paths.specs.Order.{Ordered, UnderSeen}
use Rattle.list.specs.Seen.{last_word}
use Rattle.list.specs.Budget.{spend_to, spend}
use Rattle.list.specs.Walk.{sum_of, spend_below}
use Rattle.budget.proofs.KidLaws.{kid_child}
use Rattle.budget.proofs.LevelLaws.{spend_is}
use Rattle.budget.proofs.SumLaws.{sum_to, to_same, to_add, to_swap, to_first, at, to_root, to_one, kids_sum}

sum_zero : (f : ℕ → ℕ) (ms : List ℕ) → ((m : ℕ) → In m ms → f m ≡ 0) → sum_of f ms ≡ 0
sum_zero f [] e = refl
sum_zero f (m ∷ ms) e = let a = e m (inl refl) in let b = sum_zero f ms (λ x j. e x (inr j)) in omega arith

module _ (s : List Node) where
  -- what a path alone costs
  abbrev own : ℕ → ℕ
  own r = cond (eqb (node_of s r).seen 1) (suc (last_word s r)) 0

  abbrev below : ℕ → ℕ
  below r = spend_below (length s) s r

  spend_to_lem : (n : ℕ) → spend_to s n ≡ sum_to own n
  unfolding spend_to sum_to
  spend_to_lem zero = refl
  spend_to_lem (suc n) = ap (λ (x : ℕ). x + own (suc n)) (spend_to_lem n)

  module _ (O : Ordered s) (U : UnderSeen s) where
    unseen : (r : ℕ) → 1 ≤ r → r ≤ length s → eqb (node_of s r).seen 1 ≡ false → below r ≡ 0
    unseen r r1 rl e = spend_is s r r1 rl ∙ rw e refl

    -- seen or not, a path costs its own and what its children cost
    parts : (r : ℕ) → 1 ≤ r → r ≤ length s → below r ≡ own r + sum_of below (kids_in s r)
    parts r r1 rl = go (eqb (node_of s r).seen 1) refl
      where
        none : eqb (node_of s r).seen 1 ≡ false → (m : ℕ) → In m (kids_in s r) → below m ≡ 0
        none e m i =
            let K = kid_child s r m i in let a = K.above in let b = K.within in
            unseen m (omega arith) b (ne_eqb (node_of s m).seen 1
            (λ z. eqb-false (node_of s r).seen 1 e (ap (λ (x : ℕ). (node_of s x).seen) (sym K.parent) ∙ U.parent m (omega arith) b z)))

        go : (b : Bool) → eqb (node_of s r).seen 1 ≡ b → below r ≡ own r + sum_of below (kids_in s r)
        go true e = spend_is s r r1 rl ∙ rw e refl
        go false e =
            let a = unseen r r1 rl e in
            let b : own r ≡ 0 = rw e refl in
            let d = sum_zero below (kids_in s r) (none e) in
            omega arith

    -- each path but the root is counted once among the children
    once : (q : ℕ) → 1 ≤ q → q ≤ length s → sum_to (at q (below q) (node_of s q).parent) (length s) ≡ cond (leb q 1) 0 (below q)
    once q q1 ql = ⊎_elim
        (λ (e : 1 ≡ q).
        to_root q (below q) (node_of s q).parent (length s) (ap (λ (x : ℕ). (node_of s x).parent) (sym e) ∙ O.root) ∙ sym (rw (le-leb q 1 (omega arith)) refl))
        (λ (h : 1 < q). let p = O.lower q h ql in
        to_one q (below q) (node_of s q).parent (length s) p.0 (let a = p.1 in omega arith) p.1 ∙ sym (rw (lt-leb q 1 h) refl))
        (eq-or-lt_of_le q1)

    -- "left is 8,192 less the sum": the walk's sum is the definition's
    pub spend_walk : spend_below (length s) s 1 ≡ spend s
    unfolding spend
    spend_walk =
        let a = to_same below (λ r. own r + sum_of below (kids_in s r)) (length s) parts in
        let b = to_add own (λ r. sum_of below (kids_in s r)) (length s) in
        let c = to_same (λ r. sum_of below (kids_in s r)) (λ p. sum_to (λ q. at q (below q) (node_of s q).parent p) (length s)) (length s) (λ p p1 pl. kids_sum s below p) in
        let d = to_swap (λ p q. at q (below q) (node_of s q).parent p) (length s) (length s) in
        let e = to_same (λ q. sum_to (at q (below q) (node_of s q).parent) (length s)) (λ q. cond (leb q 1) 0 (below q)) (length s) once in
        let f = to_first below (length s) O.some in
        let g = spend_to_lem (length s) in
        omega arith
