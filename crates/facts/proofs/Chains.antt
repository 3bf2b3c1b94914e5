-- The chains of the document (`Chained`) and the local links (`Linked`) say the same.
use Prim.Native.Nat.{ℕ, zero, suc, ◌+◌, ◌-◌, ◌*◌, ◌≤◌, ◌<◌, max}
use mathlib.Core.Path.{◌≡◌, refl, sym, ap, ◌∙◌, subst}
use mathlib.Core.Logic.{◌⊎◌, inl, inr, ⊎_elim}
use mathlib.Core.List.{List, [], ◌∷◌}
use native.Mathlib.Omega.{arith}
use native.Mathlib.Decide.{ℕ_discrete}
use Rattle.facts.proofs.Laws.{lt_or_ge}
use Rattle.facts.proofs.Distinct.{NoDup}
use lib.ListN.{get_or}
use Rattle.limits.specs.Limits.{record_width}
use Rattle.limits.specs.Fields as field
use Rattle.facts.specs.Table.{fld, key_of, parent_of, child_of, next_of}
use Rattle.facts.specs.Links.{Kid, In, Seg, Rising}
use Rattle.facts.specs.Linked.{First, Linked, Chained}

-- ms is the rest, from c on, of a chain that has every child of p whose key is at least b
pub record Rest (t : List ℕ) (u p b c : ℕ) (ms : List ℕ) : Type 0 where
  pub seg : Seg t c ms 0
  pub rising : Rising t b ms
  pub kids : (m : ℕ) → In m ms → Kid t u p m
  pub all : (r : ℕ) → Kid t u p r → b ≤ key_of t r → In r ms

pub rising_low : (t : List ℕ) (b : ℕ) (ms : List ℕ) (r : ℕ) → Rising t b ms → In r ms → b ≤ key_of t r
rising_low t b [] r h x'' = elim x'' [ ]
rising_low t b (m ∷ ms) r h (inl e) = rw e h.0
rising_low t b (m ∷ ms) r h (inr i) = let g = rising_low t (key_of t m + 1) ms r h.1 i in let g0 = h.0 in omega arith

rest_tail : (t : List ℕ) (u p b c m : ℕ) (ms : List ℕ) → Rest t u p b c (m ∷ ms) → Rest t u p (key_of t m + 1) (next_of t m) ms
rest_tail t u p b c m ms R = record {
  seg = R.seg.2;
  rising = R.rising.1;
  kids = λ k i. R.kids k (inr i);
  all = λ r k h. ⊎_elim (λ e. absurd (subst (λ (x : ℕ). key_of t m + 1 ≤ key_of t x → ⊥) (sym e) (λ q. omega arith) h)) (λ i. i)
      (R.all r k (let g = R.rising.0 in omega arith));
}

rest_first : (t : List ℕ) (u p b c : ℕ) (ms : List ℕ) → Rest t u p b c ms → First t u p b c
rest_first t u p b c [] R = record {
  none = λ z r k. ⊎_elim (λ h. h) (λ h. absurd (R.all r k h)) (lt_or_ge (key_of t r) b);
  kid = λ n. absurd (n R.seg);
  from = λ n. absurd (n R.seg);
  least = λ r k h. absurd (R.all r k h);
}
rest_first t u p b c (m ∷ ms) R =
    let e : c ≡ m = R.seg.0 in
    record {
      none = λ z r k. absurd (R.seg.1 (sym e ∙ z));
      kid = λ n. rw e (R.kids m (inl refl));
      from = λ n. rw e R.rising.0;
      least = λ r k h. ⊎_elim (λ (q : r ≡ m). rw e (let a = ap (λ (x : ℕ). key_of t x) q in omega arith)) (λ i. rw e (let g = rising_low t (key_of t m + 1) ms r R.rising.1 i in omega arith)) (R.all r k h);
    }

rest_next : (t : List ℕ) (u p b c : ℕ) (ms : List ℕ) (r : ℕ) → Rest t u p b c ms → In r ms → First t u p (key_of t r + 1) (next_of t r)
rest_next t u p b c [] r R x'' = elim x'' [ ]
rest_next t u p b c (m ∷ ms) r R (inl e) = rw e (rest_first t u p (key_of t m + 1) (next_of t m) ms (rest_tail t u p b c m ms R))
rest_next t u p b c (m ∷ ms) r R (inr i) = rest_next t u p (key_of t m + 1) (next_of t m) ms r (rest_tail t u p b c m ms R) i

rising_same : (t : List ℕ) (b : ℕ) (ms : List ℕ) (r s : ℕ) → Rising t b ms → In r ms → In s ms → key_of t r ≡ key_of t s → r ≡ s
rising_same t b [] r s h x4 _ k = elim x4 [ ]
rising_same t b (m ∷ ms) r s h (inl e) (inl q) k = e ∙ sym q
rising_same t b (m ∷ ms) r s h (inl e) (inr j) k =
    let g = rising_low t (key_of t m + 1) ms s h.1 j in let a = ap (λ (x : ℕ). key_of t x) e in absurd (omega arith)
rising_same t b (m ∷ ms) r s h (inr i) (inl q) k =
    let g = rising_low t (key_of t m + 1) ms r h.1 i in let a = ap (λ (x : ℕ). key_of t x) q in absurd (omega arith)
rising_same t b (m ∷ ms) r s h (inr i) (inr j) k = rising_same t (key_of t m + 1) ms r s h.1 i j k

-- what a walk from c passes stands in the whole chain from c
pub seg_in : (t : List ℕ) (c : ℕ) (ms : List ℕ) (r : ℕ) (ns : List ℕ) → (r ≡ 0 → ⊥) → Seg t c ms r → Seg t c ns 0 → In r ns
seg_in t c [] r [] n s w = absurd (n (sym s ∙ w))
seg_in t c [] r (k ∷ ns) n s w = inl (sym s ∙ w.0)
seg_in t c (m ∷ ms) r [] n s w = absurd (s.1 (sym s.0 ∙ w))
seg_in t c (m ∷ ms) r (k ∷ ns) n s w =
    inr (seg_in t (next_of t m) ms r ns n s.2 (subst (λ (x : ℕ). Seg t (next_of t x) ns 0) (sym w.0 ∙ s.0) w.2))

module _ (t : List ℕ) (u : ℕ) (S : Chained t u) where
  pub rest : (p : ℕ) (p1 : 1 ≤ p) (pu : p ≤ u) → Rest t u p 0 (child_of t p) (S.chain p p1 pu).members
  rest p p1 pu =
      let C = S.chain p p1 pu in
      record {
        seg = C.whole;
        rising = C.rising;
        kids = C.kids;
        all = λ r k h.
            let q = S.placed r (let a = k.above in omega arith) k.used in
            seg_in t (child_of t p) q.0 r C.members (λ z. let a = k.above in omega arith)
            (subst (λ (x : ℕ). Seg t (child_of t x) q.0 r) k.parent q.1) C.whole;
      }

  kid_low : (p r : ℕ) → Kid t u p r → p ≤ u
  kid_low p r k = let a = k.above in let b = k.used in omega arith

  pub chained_linked : Linked t u
  chained_linked = record {
    some = S.some;
    whole = S.whole;
    up = S.up;
    child = λ p p1 pu. rest_first t u p 0 (child_of t p) (S.chain p p1 pu).members (rest p p1 pu);
    next = λ p r p1 k.
        let pu = kid_low p r k in
        rest_next t u p 0 (child_of t p) (S.chain p p1 pu).members r (rest p p1 pu) ((rest p p1 pu).all r k (omega arith));
    distinct = λ p r s p1 k j e.
        let pu = kid_low p r k in
        rising_same t 0 (S.chain p p1 pu).members r s (S.chain p p1 pu).rising ((rest p p1 pu).all r k (omega arith)) ((rest p p1 pu).all s j (omega arith)) e;
  }

-- a number of the list is at most the largest
pub top : List ℕ → ℕ
top [] = 0
top (x ∷ xs) = max x (top xs)

top_le : (l : List ℕ) (i : ℕ) → get_or l i 0 ≤ top l
unfolding top
top_le [] i = omega arith
top_le (x ∷ xs) zero = omega arith
top_le (x ∷ xs) (suc i) = let h = top_le xs i in omega arith

pub key_le : (t : List ℕ) (r : ℕ) → key_of t r ≤ top t
unfolding fld
key_le t r = top_le t ((r - 1) * record_width + field.key)

record Built (t : List ℕ) (u p b c : ℕ) : Type 0 where
  members : List ℕ
  rest : Rest t u p b c members

-- what stands in a chain is met on a walk of it
pub in_seg : (t : List ℕ) (c : ℕ) (ms : List ℕ) (d r : ℕ) → Seg t c ms d → In r ms → (ns : List ℕ) × Seg t c ns r
in_seg t c [] d r s x'' = elim x'' [ ]
in_seg t c (m ∷ ms) d r s (inl e) = ([], s.0 ∙ sym e)
in_seg t c (m ∷ ms) d r s (inr i) = let g = in_seg t (next_of t m) ms d r s.2 i in (m ∷ g.0, (s.0, s.1, g.1))

module _ (t : List ℕ) (u : ℕ) (L : Linked t u) (p : ℕ) (p1 : 1 ≤ p) where
  built_none : (b c : ℕ) → First t u p b c → c ≡ 0 → Built t u p b c
  built_none b c F z = record {
    members = [];
    rest = record { seg = z; rising = tt; kids = λ m i. absurd i; all = λ r k h. let g = F.none z r k in omega arith };
  }

  built_more : (b c : ℕ) → First t u p b c → (c ≡ 0 → ⊥) → Built t u p (key_of t c + 1) (next_of t c) → Built t u p b c
  built_more b c F n B = record {
    members = c ∷ B.members;
    rest = record {
      seg = (refl, n, B.rest.seg);
      rising = (F.from n, B.rest.rising);
      kids = λ m i. ⊎_elim (λ e. rw e (F.kid n)) (λ j. B.rest.kids m j) i;
      all = λ r k h.
          ⊎_elim (λ e. inl (L.distinct p r c p1 k (F.kid n) e)) (λ l. inr (B.rest.all r k l)) (split r (F.least r k h));
    };
  }
    where
      split : (r : ℕ) → key_of t c ≤ key_of t r → (key_of t r ≡ key_of t c) ⊎ (key_of t c + 1 ≤ key_of t r)
      split r h = ⊎_elim (λ l. inl (omega arith)) (λ l. inr l) (lt_or_ge (key_of t r) (key_of t c + 1))

  build : (n b c : ℕ) → top t < b + n → First t u p b c → Built t u p b c
  build zero b c h F = built_none b c F (go (ℕ_discrete c 0))
    where
      go : Dec (c ≡ 0) → c ≡ 0
      go (yes z) = z
      go (no m) = let a = F.from m in let k = key_le t c in absurd (omega arith)
  build (suc n) b c h F = go (ℕ_discrete c 0) (λ m. build n (key_of t c + 1) (next_of t c) (let a = F.from m in omega arith) (L.next p c p1 (F.kid m)))
    where
      go : Dec (c ≡ 0) → ((c ≡ 0 → ⊥) → Built t u p (key_of t c + 1) (next_of t c)) → Built t u p b c
      go (yes z) f = built_none b c F z
      go (no m) f = built_more b c F m (f m)

  built : p ≤ u → Built t u p 0 (child_of t p)
  built pu = build (top t + 1) 0 (child_of t p) (omega arith) (L.child p p1 pu)

pub linked_chained : (t : List ℕ) (u : ℕ) → Linked t u → Chained t u
linked_chained t u L = record {
  some = L.some;
  whole = L.whole;
  up = L.up;
  chain = λ p p1 pu.
      let B = built t u L p p1 pu in
      record { members = B.members; whole = B.rest.seg; rising = B.rest.rising; kids = B.rest.kids };
  placed = λ r r1 ru.
      let h = L.up r r1 ru in
      let B = built t u L (parent_of t r) h.0 (omega arith) in
      in_seg t (child_of t (parent_of t r)) B.members 0 r B.rest.seg
      (B.rest.all r (record { above = h.1; used = ru; parent = refl }) (omega arith));
}

-- a record stands once in a chain: keys strictly rise
pub rising_once : (t : List ℕ) (b : ℕ) (ms : List ℕ) → Rising t b ms → NoDup ms
rising_once t b [] R = tt
rising_once t b (m ∷ ms) R =
    ((λ i. let l = rising_low t (key_of t m + 1) ms m R.1 i in omega arith), rising_once t (key_of t m + 1) ms R.1)

-- "Each used record but the root stands exactly once in the chain of its parent"
module _ (t : List ℕ) (u : ℕ) (C : Chained t u) (r : ℕ) (r1 : 1 < r) (ru : r ≤ u) where
  pub parent_used : parent_of t r ≤ u
  parent_used = let h = C.up r r1 ru in omega arith

  pub stands_once : In r (C.chain (parent_of t r) (C.up r r1 ru).0 parent_used).members × NoDup (C.chain (parent_of t r) (C.up r r1 ru).0 parent_used).members
  stands_once =
      let K = C.chain (parent_of t r) (C.up r r1 ru).0 parent_used in
      let q = C.placed r r1 ru in
      (seg_in t (child_of t (parent_of t r)) q.0 r K.members (λ z. omega arith) q.1 K.whole, rising_once t 0 K.members K.rising)
