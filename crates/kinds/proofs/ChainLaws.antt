-- One walk of the root's chain beside the rising keys of the words: where it goes on after a word.
use Prim.Native.Nat.{ℕ, ◌≤◌, ◌<◌}
use mathlib.Core.Path.{◌≡◌, sym, ap, ◌∙◌}
use mathlib.Core.Logic.{⊎_elim}
use mathlib.Core.List.{List}
use native.Mathlib.Omega.{arith}
use native.Mathlib.Nat.{eq-or-lt_of_le}
use Rattle.facts.specs.Table.{key_of, parent_of}
use Rattle.facts.specs.State.{Node, node_at, nodes, node_of}
use Rattle.facts.proofs.Encode.{length_nodes, nodes_get}
use Rattle.paths.specs.Shape.{Shaped}
use Rattle.paths.specs.Find.{find_in}
use Rattle.paths.specs.Make.{get_or_create}
use Rattle.paths.specs.Place.{Before}
use Rattle.paths.proofs.Reach.{Named, found_named, create_named}

-- what is before a key is before a higher one
pub before_up : (t : List ℕ) (u p k k' prev : ℕ) → k ≤ k' → Before t u p k prev → Before t u p k' prev
before_up t u p k k' prev h B = record { kid = B.kid; below = λ n. let b = B.below n in omega arith }

-- a child with the key k is before each higher key
named_before : (t : List ℕ) (u N p k k' r : ℕ) → Shaped t u N → 1 ≤ p → Named (nodes t u) p k u r → k < k' → Before t u p k' r
named_before t u N p k k' r S p1 M h = record {
  kid = λ _. record {
    above = ⊎_elim
        (λ (e : 1 ≡ r). let z = ap (λ (x : ℕ). parent_of t x) e in let q = S.root_parent in absurd (omega (arith, parent_is)))
        (λ (l : 1 < r). let x = S.linked.up r l M.high in omega (arith, parent_is))
        (eq-or-lt_of_le M.low);
    used = M.high;
    parent = parent_is;
  };
  below = λ _. omega (arith, key_is);
}
  where
    node : node_of (nodes t u) r ≡ node_at t r
    node = nodes_get t u r M.low M.high

    parent_is : parent_of t r ≡ p
    parent_is = sym (ap (λ (n : Node). n.parent) node) ∙ M.parent

    key_is : key_of t r ≡ k
    key_is = sym (ap (λ (n : Node). n.key) node) ∙ M.key

-- the walk goes on behind a child that was found
pub found_before : (t : List ℕ) (u N p k k' r : ℕ) → Shaped t u N → 1 ≤ p → r ≡ find_in (nodes t u) p k → (r ≡ 0 → ⊥) → k < k' → Before t u p k' r
found_before t u N p k k' r S p1 e n h =
    let M = found_named (nodes t u) p k (λ z. n (e ∙ z)) in
    rw e (named_before t u N p k k' (find_in (nodes t u) p k) S p1 (rw (length_nodes t u) at M) h)

-- and behind one that was made
pub made_before : (s : List Node) (p k k' : ℕ) (t : List ℕ) (used N r : ℕ) → 1 ≤ p → k < k' → Shaped t used N
    → nodes t used ≡ (get_or_create s p k).state → r ≡ (get_or_create s p k).number → 1 ≤ r → r ≤ used → Before t used p k' r
made_before s p k k' t used N r p1 h S state number r1 ru =
    let C = create_named s p k in
    named_before t used N p k k' r S p1 (record {
      low = r1;
      high = ru;
      parent = (λ i. (node_of (state i) (number i)).parent) ∙ C.parent;
      key = (λ i. (node_of (state i) (number i)).key) ∙ C.key;
    }) h
