-- The seen children of a fact: which they are, and that their keys rise.
use Prim.Native.Nat.{ℕ, ◌+◌, ◌≤◌}
use mathlib.Core.Path.{◌≡◌, refl, sym, ap, ◌∙◌, subst}
use mathlib.Core.Bool.{Bool, true, false, cond}
use mathlib.Core.Logic.{inl, inr}
use mathlib.Core.List.{List, [], ◌∷◌}
use native.Mathlib.Omega.{arith}
use lib.Dec.{eqb}
use lib.ListN.{length}
use borrow.Author.Tests.{eqb-true, eq-eqb}
use Rattle.facts.specs.Links.{Kid, In, Rising}
use Rattle.facts.specs.Table.{key_of}
use Rattle.facts.specs.Formed.{Formed}
use Rattle.facts.specs.State.{Node, nodes, node_of, kids_in, encode}
use Rattle.facts.specs.Linked.{kids_of}
use Rattle.facts.proofs.Encode.{length_nodes, nodes_get, kids_nodes}
use Rattle.facts.proofs.Kids.{kids_in_lem, kids_rising}
use Rattle.facts.proofs.States.{formed_state}
use Rattle.list.specs.Seen.{seen_ones, children_in}
use Rattle.budget.proofs.KidLaws.{kid_child, child_kid}
use Rattle.list_theorems.proofs.Under.{SeenChild}

-- the keys rise along the list, all from b on
abbrev pub ByKey : List Node → ℕ → List ℕ → Type 0
ByKey s b [] = Unit {0}
ByKey s b (m ∷ ms) = (b ≤ (node_of s m).key) × ByKey s ((node_of s m).key + 1) ms

pub key_low : (s : List Node) (b : ℕ) (ms : List ℕ) (r : ℕ) → ByKey s b ms → In r ms → b ≤ (node_of s r).key
key_low s b [] r h x'' = elim x'' [ ]
key_low s b (m ∷ ms) r h (inl e) = rw e h.0
key_low s b (m ∷ ms) r h (inr i) = let g = key_low s ((node_of s m).key + 1) ms r h.1 i in let g0 = h.0 in omega arith

lower_start : (s : List Node) (a b : ℕ) (ms : List ℕ) → a ≤ b → ByKey s b ms → ByKey s a ms
lower_start s a b [] l h = tt
lower_start s a b (m ∷ ms) l h = ((let g = h.0 in omega arith), h.1)

-- what is passed over changes no order
seen_by_key : (s : List Node) (b : ℕ) (ms : List ℕ) → ByKey s b ms → ByKey s b (seen_ones s ms)
unfolding seen_ones
seen_by_key s b [] h = tt
seen_by_key s b (m ∷ ms) h = go (eqb (node_of s m).seen 1) (seen_by_key s ((node_of s m).key + 1) ms h.1)
  where
    go : (c : Bool) → ByKey s ((node_of s m).key + 1) (seen_ones s ms) → ByKey s b (cond c (m ∷ seen_ones s ms) (seen_ones s ms))
    go true g = (h.0, g)
    go false g = lower_start s b ((node_of s m).key + 1) (seen_ones s ms) (let x = h.0 in omega arith) g

seen_in : (s : List Node) (r : ℕ) (ms : List ℕ) → In r (seen_ones s ms) → In r ms × ((node_of s r).seen ≡ 1)
unfolding seen_ones
seen_in s r [] i = absurd i
seen_in s r (m ∷ ms) i = go (eqb (node_of s m).seen 1) refl (seen_in s r ms) i
  where
    go : (c : Bool) → eqb (node_of s m).seen 1 ≡ c → (In r (seen_ones s ms) → In r ms × ((node_of s r).seen ≡ 1))
        → In r (cond c (m ∷ seen_ones s ms) (seen_ones s ms)) → In r (m ∷ ms) × ((node_of s r).seen ≡ 1)
    go true e f (inl q) = (inl q, ap (λ (x : ℕ). (node_of s x).seen) q ∙ eqb-true (node_of s m).seen 1 e)
    go true e f (inr j) = (inr (f j).0, (f j).1)
    go false e f j = (inr (f j).0, (f j).1)

in_seen : (s : List Node) (r : ℕ) (ms : List ℕ) → In r ms → (node_of s r).seen ≡ 1 → In r (seen_ones s ms)
unfolding seen_ones
in_seen s r (m ∷ ms) (inl q) y = rw (eq-eqb (node_of s m).seen 1 (ap (λ (x : ℕ). (node_of s x).seen) (sym q) ∙ y)) (inl q)
in_seen s r [] x'' y = elim x'' [ ]
in_seen s r (m ∷ ms) (inr i) y = go (eqb (node_of s m).seen 1) (in_seen s r ms i y)
  where
    go : (c : Bool) → In r (seen_ones s ms) → In r (cond c (m ∷ seen_ones s ms) (seen_ones s ms))
    go true j = inr j
    go false j = j

-- the children in a table, as the state has them
module _ (t : List ℕ) (u p : ℕ) (F : Formed (nodes t u)) (p1 : 1 ≤ p) where
  got : (r : ℕ) → Kid t u p r → (node_of (nodes t u) r).key ≡ key_of t r × (node_of (nodes t u) r).parent ≡ p
  got r K =
      let a = K.above in
      let n = nodes_get t u r (omega arith) K.used in
      (ap (λ (x : Node). x.key) n, ap (λ (x : Node). x.parent) n ∙ K.parent)

  one : (r q : ℕ) → Kid t u p r → Kid t u p q → key_of t r ≡ key_of t q → r ≡ q
  one r q K J e =
      let l = length_nodes t u in
      let a = K.above in let b = J.above in let x = K.used in let y = J.used in
      F.distinct r q (omega arith) (omega arith) (omega arith) (omega arith) ((got r K).1 ∙ sym (got q J).1) ((got r K).0 ∙ e ∙ sym (got q J).0)

  rises : (b : ℕ) (ms : List ℕ) → ((m : ℕ) → In m ms → Kid t u p m) → Rising t b ms → ByKey (nodes t u) b ms
  rises b [] f h = tt
  rises b (m ∷ ms) f h =
      let e = (got m (f m (inl refl))).0 in
      rw e (h.0, rises (key_of t m + 1) ms (λ x i. f x (inr i)) h.1)

  kids_by_key : ByKey (nodes t u) 0 (kids_in (nodes t u) p)
  kids_by_key = rw (kids_nodes t u p) (rises 0 (kids_of t u p) (λ m i. kids_in_lem t p u m i) (kids_rising t p u one u (omega arith)))

-- any state is read off a table
module _ (s : List Node) (r : ℕ) where
  pub children_by_key : Formed s → 1 ≤ r → ByKey s 0 (children_in s r)
  children_by_key F r1 =
      seen_by_key s 0 (kids_in s r)
      (subst (λ (x : List Node). Formed x → ByKey x 0 (kids_in x r)) (formed_state (length s) s (omega arith))
      (λ G. kids_by_key (encode (length s) s) (length s) r G r1) F)

  pub in_child : (c : ℕ) → In c (children_in s r) → SeenChild s r (node_of s c).key c
  in_child c i = let h = seen_in s c (kids_in s r) i in record { child = kid_child s r c h.0; seen = h.1; key = refl }

  pub child_in : (k c : ℕ) → SeenChild s r k c → In c (children_in s r)
  child_in k c C = in_seen s c (kids_in s r) (child_kid s r c C.child) C.seen
