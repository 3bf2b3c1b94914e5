-- The children of a path in a state: higher numbers, with that parent.
use Prim.Native.Nat.{ℕ, ◌≤◌, ◌<◌}
use mathlib.Core.Path.{◌≡◌, sym, ap, ◌∙◌, subst}
use mathlib.Core.List.{List}
use native.Mathlib.Omega.{arith}
use lib.ListN.{length}
use Rattle.facts.specs.Links.{In}
use Rattle.facts.specs.State.{Node, nodes, node_of, kids_in, encode}
use Rattle.facts.proofs.Encode.{length_nodes, nodes_get, kids_nodes}
use Rattle.facts.proofs.Kids.{kids_in_lem, in_kids}
use Rattle.facts.proofs.States.{formed_state}

-- q is a child of p by its own fields
pub record Child (s : List Node) (p q : ℕ) : Type 0 where
  pub above : p < q
  pub within : q ≤ length s
  pub parent : (node_of s q).parent ≡ p

child_there : (t : List ℕ) (u p q : ℕ) → In q (kids_in (nodes t u) p) → Child (nodes t u) p q
child_there t u p q i =
    let K = kids_in_lem t p u q (rw (kids_nodes t u p) at i) in
    let a = K.above in let b = K.used in let l = length_nodes t u in
    record { above = a; within = omega arith; parent = ap (λ (n : Node). n.parent) (nodes_get t u q (omega arith) b) ∙ K.parent }

there_child : (t : List ℕ) (u p q : ℕ) → Child (nodes t u) p q → In q (kids_in (nodes t u) p)
there_child t u p q C =
    let a = C.above in let b = C.within in let l = length_nodes t u in
    let h : q ≤ u = omega arith in
    let e = ap (λ (n : Node). n.parent) (nodes_get t u q (omega arith) h) in
    rw (kids_nodes t u p) (in_kids t p u q (record { above = a; used = h; parent = sym e ∙ C.parent }))

-- any state is read off a table
module _ (s : List Node) (p q : ℕ) where
  read : nodes (encode (length s) s) (length s) ≡ s
  read = formed_state (length s) s (omega arith)

  pub kid_child : In q (kids_in s p) → Child s p q
  kid_child = subst (λ (x : List Node). In q (kids_in x p) → Child x p q) read (child_there (encode (length s) s) (length s) p q)

  pub child_kid : Child s p q → In q (kids_in s p)
  child_kid = subst (λ (x : List Node). Child x p q → In q (kids_in x p)) read (there_child (encode (length s) s) (length s) p q)
