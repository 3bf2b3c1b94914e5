-- What a walk of the chain finds is what the state has.
use Rattle.std.proofs.Common.{◌≡◌, ℕ, zero, suc, ◌+◌, ◌<◌, ◌≤◌, Bool, true, false, cond, ◌&&◌, eqb, List, [], ◌∷◌, ◌++◌, sym, refl, ap, ◌∙◌, ⊎_elim, eq-or-lt_of_le, arith, eq-eqb, ne_eqb, eqb-true}
use native.Mathlib.Decide.{ℕ_discrete}
use borrow.Author.Tests.{eqb-false}
use Rattle.facts.specs.Table.{key_of, parent_of, seen_of}
use Rattle.facts.specs.Links.{Kid}
use Rattle.facts.specs.Linked.{Linked}
use Rattle.facts.specs.State.{Node, nodes, node_of, bare}
use Rattle.facts.proofs.Encode.{length_nodes, nodes_get}
use Rattle.paths.specs.Shape.{Shaped}
use Rattle.paths.specs.Find.{find_to, find_in, get_mut}
use Rattle.paths.specs.Make.{ensure}
use Rattle.paths.specs.Adds.{missing}
use Rattle.paths.specs.Represents.{Represents, Makes}
use Rattle.paths.proofs.Walk.{Found}
use Rattle.paths.proofs.Spotting.{Absent}

module _ (t : List ℕ) (u p k : ℕ) (L : Linked t u) (Z : parent_of t 1 ≡ 0) (p1 : 1 ≤ p) where
  key_is : (r : ℕ) → 1 ≤ r → r ≤ u → (node_of (nodes t u) r).key ≡ key_of t r
  key_is r r1 ru = ap (λ (n : Node). n.key) (nodes_get t u r r1 ru)

  parent_is : (r : ℕ) → 1 ≤ r → r ≤ u → (node_of (nodes t u) r).parent ≡ parent_of t r
  parent_is r r1 ru = ap (λ (n : Node). n.parent) (nodes_get t u r r1 ru)

  -- the root is no child, and each other record stands behind its parent
  kid_of : (r : ℕ) → 1 ≤ r → r ≤ u → parent_of t r ≡ p → p < r
  kid_of r r1 ru e = ⊎_elim
      (λ (q : 1 ≡ r). absurd (let z = ap (λ (x : ℕ). parent_of t x) q in omega arith))
      (λ (l : 1 < r). let h = L.up r l ru in omega arith)
      (eq-or-lt_of_le r1)

  -- a child up to n + 1 is n + 1 or one up to n
  found_skip : (n z : ℕ) → Found t n p k z → (Kid t (suc n) p (suc n) → key_of t (suc n) ≡ k → ⊥) → Found t (suc n) p k z
  found_skip n z F no_more = record {
    none = λ e s K q. ⊎_elim
        (λ (w : s ≡ suc n). no_more (rw w at K) (rw w at q))
        (λ (l : s < suc n). F.none e s (record { above = K.above; used = omega arith; parent = K.parent }) q)
        (eq-or-lt_of_le K.used);
    kid = λ n'. let K = F.kid n' in record { above = K.above; used = let h = K.used in omega arith; parent = K.parent };
    key = F.key;
  }

  find_found : (n : ℕ) → n ≤ u → Found t n p k (find_to (nodes t u) p k n)
  unfolding find_to
  find_found zero h = record { none = λ _ s K _. let a = K.above in let b = K.used in omega arith; kid = λ n. absurd (n refl); key = λ n. absurd (n refl) }
  find_found (suc n) h =
      go (eqb (node_of (nodes t u) (suc n)).parent p) refl (eqb (node_of (nodes t u) (suc n)).key k) refl (find_found n (omega arith))
    where
      go : (b : Bool) → eqb (node_of (nodes t u) (suc n)).parent p ≡ b → (c : Bool) → eqb (node_of (nodes t u) (suc n)).key k ≡ c
          → Found t n p k (find_to (nodes t u) p k n) → Found t (suc n) p k (cond (b && c) (suc n) (find_to (nodes t u) p k n))
      go true eb true ec F =
          let e : parent_of t (suc n) ≡ p = sym (parent_is (suc n) (omega arith) h) ∙ eqb-true (node_of (nodes t u) (suc n)).parent p eb in
          record {
            none = λ z. absurd (omega arith);
            kid = λ _. record { above = kid_of (suc n) (omega arith) h e; used = omega arith; parent = e };
            key = λ _. sym (key_is (suc n) (omega arith) h) ∙ eqb-true (node_of (nodes t u) (suc n)).key k ec;
          }
      go true eb false ec F = found_skip n (find_to (nodes t u) p k n) F (λ K q. eqb-false (node_of (nodes t u) (suc n)).key k ec (key_is (suc n) (omega arith) h ∙ q))
      go false eb c ec F = found_skip n (find_to (nodes t u) p k n) F (λ K q. eqb-false (node_of (nodes t u) (suc n)).parent p eb (parent_is (suc n) (omega arith) h ∙ K.parent))

  found_same : (r s : ℕ) → Found t u p k r → Found t u p k s → r ≡ s
  found_same r s F G = go (ℕ_discrete r 0) (ℕ_discrete s 0)
    where
      go : Dec (r ≡ 0) → Dec (s ≡ 0) → r ≡ s
      go (yes a) (yes b) = a ∙ sym b
      go (yes a) (no b) = absurd (F.none a s (G.kid b) (G.key b))
      go (no a) (yes b) = absurd (G.none b r (F.kid a) (F.key a))
      go (no a) (no b) = L.distinct p r s p1 (F.kid a) (G.kid b) (F.key a ∙ sym (G.key b))

  find_in_lem : Found t u p k (find_in (nodes t u) p k)
  unfolding find_in
  find_in_lem = rw (length_nodes t u) (find_found u (omega arith))

  -- what is found, and where its number stands
  pub found_is : (r : ℕ) → Found t u p k r → (r ≡ find_in (nodes t u) p k) × (r ≤ u)
  found_is r F = (found_same r (find_in (nodes t u) p k) F find_in_lem, go (ℕ_discrete r 0))
    where
      go : Dec (r ≡ 0) → r ≤ u
      go (yes a) = omega arith
      go (no a) = (F.kid a).used

  pub absent : find_in (nodes t u) p k ≡ 0 → Absent t u p k
  absent z = record { none = λ s K e. find_in_lem.none z s K e }

-- a path that is not there, one that is seen and one that is not
module _ (t : List ℕ) (u p k r : ℕ) (e : r ≡ find_in (nodes t u) p k) (ru : r ≤ u) where
  pub get_none : r ≡ 0 → 0 ≡ get_mut (nodes t u) p k
  unfolding get_mut
  get_none z = go (eqb (node_of (nodes t u) (find_in (nodes t u) p k)).seen 1)
    where
      go : (b : Bool) → 0 ≡ cond b (find_in (nodes t u) p k) 0
      go true = sym z ∙ e
      go false = refl

  module _ (n : r ≡ 0 → ⊥) (v : ℕ) (ev : v ≡ seen_of t r) where
    seen_told : v ≡ (node_of (nodes t u) (find_in (nodes t u) p k)).seen
    seen_told = ev ∙ ap (λ (x : Node). x.seen) (sym (nodes_get t u r (omega arith) ru)) ∙ ap (λ (q : ℕ). (node_of (nodes t u) q).seen) e

    pub get_seen : v ≡ 1 → r ≡ get_mut (nodes t u) p k
    unfolding get_mut
    get_seen z = rw (eq-eqb (node_of (nodes t u) (find_in (nodes t u) p k)).seen 1 (sym seen_told ∙ z)) e

    pub get_unseen : (v ≡ 1 → ⊥) → 0 ≡ get_mut (nodes t u) p k
    unfolding get_mut
    get_unseen z = rw (ne_eqb (node_of (nodes t u) (find_in (nodes t u) p k)).seen 1 (λ q. z (seen_told ∙ q))) refl

pub missing_none : (s : List Node) (p k r : ℕ) → r ≡ find_in s p k → r ≡ 0 → 1 ≡ missing s p k
unfolding missing
missing_none s p k r e z = rw (eq-eqb (find_in s p k) 0 (sym e ∙ z))

pub missing_some : (s : List Node) (p k r : ℕ) → r ≡ find_in s p k → (r ≡ 0 → ⊥) → 0 ≡ missing s p k
unfolding missing
missing_some s p k r e n = rw (ne_eqb (find_in s p k) 0 (λ z. n (e ∙ z)))

-- it was not there
pub find_none : (s : List Node) (p k r : ℕ) → r ≡ find_in s p k → r ≡ 0 → find_in s p k ≡ 0
find_none s p k r e z = sym e ∙ z

-- it was there
pub ensured_old : (t : List ℕ) (u N p k r : ℕ) → Shaped t u N → r ≡ find_in (nodes t u) p k → r ≤ u → (r ≡ 0 → ⊥) → Makes u (ensure (nodes t u) p k) t u N r
unfolding ensure
ensured_old t u N p k r S e ru n =
    let q = ne_eqb (find_in (nodes t u) p k) 0 (λ z. n (e ∙ z)) in
    record { shaped = S; state = rw q refl; number = rw q e; range = (omega arith, ru, omega arith, omega arith) }

-- it was added
pub ensured_new : (t : List ℕ) (u N p k : ℕ) (t' : List ℕ) → find_in (nodes t u) p k ≡ 0 → Represents t' (u + 1) N (nodes t u ++ bare p k ∷ [])
    → Makes u (ensure (nodes t u) p k) t' (u + 1) N (u + 1)
unfolding ensure
ensured_new t u N p k t' z H =
    let q = eq-eqb (find_in (nodes t u) p k) 0 z in
    let l = length_nodes t u in
    record { shaped = H.shaped; state = rw q H.state; number = rw q (omega arith); range = (omega arith, omega arith, omega arith, omega arith) }
