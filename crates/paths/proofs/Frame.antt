-- A store to a field that is no link: it keeps the links, and changes one field of one node.
use Rattle.std.proofs.Common.{◌≡◌, ℕ, zero, suc, ◌+◌, ◌*◌, ◌<◌, ◌≤◌, Bool, true, false, cond, eqb, List, length, get_or, set, sym, refl, ap, ◌∙◌, arith, length-set, get_or-set_other, get_or-set_same, ext_get_or, eqb-true}
use native.Mathlib.Decide.{ℕ_discrete}
use borrow.Author.Tests.{eqb-false}
use Rattle.limits.specs.Limits.{record_width}
use Rattle.facts.specs.Table.{fld, key_of, child_of, next_of}
use Rattle.facts.specs.Access.{put}
use Rattle.facts.specs.Links.{Kid}
use Rattle.facts.specs.Linked.{First, Linked}
use Rattle.facts.specs.State.{Node, node_at, nodes, node_of, bare, encode}
use Rattle.facts.specs.Sound.{Sound}
use Rattle.facts.proofs.Laws.{length_put, put_same, put_else}
use Rattle.facts.proofs.Chains.{chained_linked}
use Rattle.facts.proofs.Encode.{length_nodes, nodes_get, encode_is}
use Rattle.paths.specs.Shape.{Shaped}
use Rattle.paths.specs.Update.{with_field, update}
use Rattle.paths.specs.Represents.{Represents}

-- the links depend on the first four fields of the used records alone
module _ (t t' : List ℕ) (u : ℕ) (len : length t' ≡ length t) (same : (r f : ℕ) → 1 ≤ r → r ≤ u → f < 4 → fld t' r f ≡ fld t r f) where
  to : (p r : ℕ) → Kid t u p r → Kid t' u p r
  to p r K = record { above = K.above; used = K.used; parent = same r 1 (let a = K.above in omega arith) K.used (omega arith) ∙ K.parent }

  back : (p r : ℕ) → Kid t' u p r → Kid t u p r
  back p r K = record { above = K.above; used = K.used; parent = sym (same r 1 (let a = K.above in omega arith) K.used (omega arith)) ∙ K.parent }

  key : (p r : ℕ) → Kid t u p r → key_of t' r ≡ key_of t r
  key p r K = same r 0 (let a = K.above in omega arith) K.used (omega arith)

  first : (p b c : ℕ) → First t u p b c → First t' u p b c
  first p b c F = record {
    none = λ z r K. rw (key p r (back p r K)) (F.none z r (back p r K));
    kid = λ n. to p c (F.kid n);
    from = λ n. rw (key p c (F.kid n)) (F.from n);
    least = λ r K h. low r (back p r K) h (ℕ_discrete c 0);
  }
    where
      low : (r : ℕ) → Kid t u p r → b ≤ key_of t' r → Dec (c ≡ 0) → key_of t' c ≤ key_of t' r
      low r K h (yes z) = let x = F.none z r K in let y = key p r K in absurd (omega arith)
      low r K h (no n) = let y = key p r K in let x = key p c (F.kid n) in let l = F.least r K (omega arith) in omega arith

  pub linked_same : Linked t u → Linked t' u
  linked_same L = record {
    some = L.some;
    whole = let w = L.whole in omega arith;
    up = λ r r1 ru. rw (same r 1 (omega arith) ru (omega arith)) (L.up r r1 ru);
    child = λ p p1 pu. rw (same p 2 p1 pu (omega arith)) (first p 0 (child_of t p) (L.child p p1 pu));
    next = λ p r p1 K. let J = back p r K in
        rw (key p r J, same r 3 (let a = K.above in omega arith) K.used (omega arith)) (first p (key_of t r + 1) (next_of t r) (L.next p r p1 J));
    distinct = λ p r s p1 K M e. let J = back p r K in let H = back p s M in L.distinct p r s p1 J H (sym (key p r J) ∙ e ∙ key p s H);
  }

cond_put : (t : List ℕ) (r f v g : ℕ) → 1 ≤ r → r * record_width ≤ length t → f < record_width → g < record_width → fld (put t r f v) r g ≡ cond (eqb f g) v (fld t r g)
cond_put t r f v g r1 w fl gl = go (eqb f g) refl
  where
    go : (b : Bool) → eqb f g ≡ b → fld (put t r f v) r g ≡ cond b v (fld t r g)
    go true e = let q = eqb-true f g e in ap (λ (x : ℕ). fld (put t r f v) r x) (sym q) ∙ put_same t r f v r1 w fl
    go false e = let q = eqb-false f g e in put_else t r f v r g r1 fl r1 gl (λ _ z. q (sym z))

node_put : (t : List ℕ) (r f v : ℕ) → 1 ≤ r → r * record_width ≤ length t → 3 < f → f < record_width → node_at (put t r f v) r ≡ with_field f v (node_at t r)
unfolding with_field
node_put t r f v r1 w f3 fl = λ i. record {
  key = put_else t r f v r 0 r1 fl r1 (omega arith) (λ _ e. omega arith) i;
  parent = put_else t r f v r 1 r1 fl r1 (omega arith) (λ _ e. omega arith) i;
  seen = cond_put t r f v 4 r1 w fl (omega arith) i;
  not_bool = cond_put t r f v 5 r1 w fl (omega arith) i;
  blocked = cond_put t r f v 6 r1 w fl (omega arith) i;
  kind = cond_put t r f v 7 r1 w fl (omega arith) i;
  count = cond_put t r f v 8 r1 w fl (omega arith) i;
  name = cond_put t r f v 9 r1 w fl (omega arith) i;
  confidence = cond_put t r f v 10 r1 w fl (omega arith) i;
}

node_other : (t : List ℕ) (r f v s : ℕ) → 1 ≤ r → f < record_width → 1 ≤ s → (s ≡ r → ⊥) → node_at (put t r f v) s ≡ node_at t s
node_other t r f v s r1 fl s1 n =
    let h : (g : ℕ) → g < record_width → fld (put t r f v) s g ≡ fld t s g = λ g gl. put_else t r f v s g r1 fl s1 gl (λ e _. n e) in
    λ i. record {
      key = h 0 (omega arith) i;
      parent = h 1 (omega arith) i;
      seen = h 4 (omega arith) i;
      not_bool = h 5 (omega arith) i;
      blocked = h 6 (omega arith) i;
      kind = h 7 (omega arith) i;
      count = h 8 (omega arith) i;
      name = h 9 (omega arith) i;
      confidence = h 10 (omega arith) i;
    }

-- the node with number i + 1 stands at place i
pub at : (s : List Node) (i : ℕ) → get_or s i (bare 0 0) ≡ node_of s (suc i)
unfolding node_of
at s i = refl

nodes_put : (t : List ℕ) (u r f v : ℕ) → 1 ≤ r → r ≤ u → u * record_width ≤ length t → 3 < f → f < record_width → nodes (put t r f v) u ≡ update (nodes t u) r f v
unfolding update
nodes_put t u zero f v r1 ru w f3 fl = absurd (omega arith)
nodes_put t u (suc c) f v r1 ru w f3 fl =
    ext_get_or (bare 0 0) (nodes (put t (suc c) f v) u) (set (nodes t u) c (with_field f v (node_of (nodes t u) (suc c))))
    (length_nodes (put t (suc c) f v) u ∙ sym (length_nodes t u) ∙ sym (length-set (nodes t u) c (with_field f v (node_of (nodes t u) (suc c)))))
    (λ i h. go i (let l = length_nodes (put t (suc c) f v) u in omega arith) (ℕ_discrete i c))
  where
    go : (i : ℕ) → i < u → Dec (i ≡ c) → get_or (nodes (put t (suc c) f v) u) i (bare 0 0) ≡ get_or (set (nodes t u) c (with_field f v (node_of (nodes t u) (suc c)))) i (bare 0 0)
    go i h (yes e) =
        let q : suc i ≡ suc c = omega arith in
        let l = length_nodes t u in
        at (nodes (put t (suc c) f v) u) i ∙ ap (node_of (nodes (put t (suc c) f v) u)) q ∙ nodes_get (put t (suc c) f v) u (suc c) r1 ru
        ∙ node_put t (suc c) f v r1 (omega arith) f3 fl ∙ ap (with_field f v) (sym (nodes_get t u (suc c) r1 ru))
        ∙ sym (get_or-set_same (nodes t u) c (with_field f v (node_of (nodes t u) (suc c))) (bare 0 0) (omega arith))
        ∙ ap (λ (j : ℕ). get_or (set (nodes t u) c (with_field f v (node_of (nodes t u) (suc c)))) j (bare 0 0)) (sym e)
    go i h (no n) =
        at (nodes (put t (suc c) f v) u) i ∙ nodes_get (put t (suc c) f v) u (suc i) (omega arith) (omega arith)
        ∙ node_other t (suc c) f v (suc i) r1 fl (omega arith) (λ e. n (omega arith))
        ∙ sym (nodes_get t u (suc i) (omega arith) (omega arith)) ∙ sym (at (nodes t u) i)
        ∙ sym (get_or-set_other (nodes t u) c i (with_field f v (node_of (nodes t u) (suc c))) (bare 0 0) n)

-- a table is the one that its state stands for
pub shaped_encode : (t : List ℕ) (used N : ℕ) → Shaped t used N → t ≡ encode N (nodes t used)
shaped_encode t used N S = encode_is t used N S.linked S.root_next S.size S.beyond

pub sound_shaped : (t : List ℕ) (used N : ℕ) → Sound t used N → Shaped t used N
sound_shaped t used N S = record {
  size = S.size;
  most = S.most;
  linked = chained_linked t used (record {
    some = S.some;
    whole = let a = S.size in let b = S.most in omega arith;
    up = S.lower;
    chain = S.chain;
    placed = S.stands;
  });
  root_parent = S.root.parent;
  root_next = S.root.next;
  beyond = S.beyond;
}

-- a store to a field that is no link changes that field of that node
pub stored : (t : List ℕ) (used N r f v : ℕ) → Shaped t used N → 1 ≤ r → r ≤ used → 4 ≤ f → f < record_width → Represents (put t r f v) used N (update (nodes t used) r f v)
stored t u N r f v S r1 ru f3 fl = record {
  shaped = record {
    size = length_put t r f v ∙ S.size;
    most = S.most;
    linked = linked_same t (put t r f v) u (length_put t r f v) (λ s g s1 su gl. put_else t r f v s g r1 fl s1 (omega arith) (λ _ e. omega arith)) S.linked;
    root_parent = put_else t r f v 1 1 r1 fl (omega arith) (omega arith) (λ _ e. omega arith) ∙ S.root_parent;
    root_next = put_else t r f v 1 3 r1 fl (omega arith) (omega arith) (λ _ e. omega arith) ∙ S.root_next;
    beyond = λ s h sN. record { zeros = λ g gl. put_else t r f v s g r1 fl (omega arith) gl (λ e _. omega arith) ∙ (S.beyond s h sN).zeros g gl };
  };
  state = nodes_put t u r f v r1 ru S.linked.whole (omega arith) fl;
}

-- what a table says of a record is its node
pub read : (t : List ℕ) (u r : ℕ) → 1 ≤ r → r ≤ u → node_at t r ≡ node_of (nodes t u) r
read t u r r1 ru = sym (nodes_get t u r r1 ru)
