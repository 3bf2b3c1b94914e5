-- A walk of a chain gives its records one by one.
use Rattle.std.proofs.Common.{◌≡◌, ℕ, ◌+◌, ◌≤◌, List, [], ◌∷◌, ◌⊎◌, inl, inr, length, sym, refl, ap, subst, ◌∙◌, arith}
use native.Mathlib.Decide.{ℕ_discrete}
use borrow.Author.Tests.{eq-eqb, ne_eqb}
use Rattle.facts.specs.Table.{key_of, next_of, child_of}
use Rattle.facts.specs.State.{nodes, kids_in}
use Rattle.facts.specs.Links.{Kid, In, Seg, Rising}
use Rattle.facts.specs.Linked.{Linked, kids_of}
use Rattle.facts.proofs.Chains.{rising_low}
use Rattle.facts.proofs.Encode.{kids_nodes}
use Rattle.facts.proofs.Kids.{chain_kids, kids_rising, kids_in_lem, in_kids}
use Rattle.paths.specs.Walking.{from_on}

from_here : (x y : ℕ) (ys : List ℕ) → x ≡ y → from_on x (y ∷ ys) ≡ y ∷ ys
from_here x y ys e = rw (eq-eqb x y e) refl

from_later : (x y : ℕ) (ys : List ℕ) → (x ≡ y → ⊥) → from_on x (y ∷ ys) ≡ from_on x ys
from_later x y ys n = rw (ne_eqb x y n) refl

module _ (t : List ℕ) where
  -- from its first record on a chain is all there
  from_first : (a : ℕ) (ms : List ℕ) → Seg t a ms 0 → from_on a ms ≡ ms
  from_first a [] S = refl
  from_first a (m ∷ ms) S = from_here a m ms S.0

  -- and behind its end there is nothing
  from_end : (a : ℕ) (ms : List ℕ) → Seg t a ms 0 → from_on 0 ms ≡ []
  from_end a [] S = refl
  from_end a (m ∷ ms) S = from_later 0 m ms (λ e. S.1 (sym e)) ∙ from_end (next_of t m) ms S.2

  -- the next of a record stands behind the chain's first
  next_behind : (a m : ℕ) (ms : List ℕ) (c : ℕ) → Seg t a (m ∷ ms) 0 → In c (m ∷ ms) → (next_of t c ≡ 0) ⊎ In (next_of t c) ms
  next_behind a m [] c S (inl e) = inl (ap (next_of t) e ∙ S.2)
  next_behind a m [] c S (inr i) = absurd i
  next_behind a m (n ∷ ns) c S (inl e) = inr (inl (ap (next_of t) e ∙ S.2.0))
  next_behind a m (n ∷ ns) c S (inr i) = go (next_behind (next_of t m) n ns c S.2 i)
    where
      go : (next_of t c ≡ 0) ⊎ In (next_of t c) ns → (next_of t c ≡ 0) ⊎ In (next_of t c) (n ∷ ns)
      go (inl z) = inl z
      go (inr j) = inr (inr j)

  from_next : (b a : ℕ) (ms : List ℕ) (c : ℕ) → Rising t b ms → Seg t a ms 0 → In c ms → from_on c ms ≡ c ∷ from_on (next_of t c) ms
  from_next b a [] c R S i = absurd i
  from_next b a (m ∷ ms) c R S i = go i (next_behind a m ms c S i) (from_next (key_of t m + 1) (next_of t m) ms c R.1 S.2)
    where
      other : (next_of t c ≡ 0) ⊎ In (next_of t c) ms → next_of t c ≡ m → ⊥
      other (inl z) e = S.1 (sym e ∙ z)
      other (inr j) e = let l = rising_low t (key_of t m + 1) ms m R.1 (subst (λ (x : ℕ). In x ms) e j) in omega arith

      go : In c (m ∷ ms) → (next_of t c ≡ 0) ⊎ In (next_of t c) ms → (In c ms → from_on c ms ≡ c ∷ from_on (next_of t c) ms)
          → from_on c (m ∷ ms) ≡ c ∷ from_on (next_of t c) (m ∷ ms)
      go (inl e) n f =
          from_here c m ms e ∙ (λ k. sym e k ∷ sym (
          from_later (next_of t c) m ms (other n) ∙ from_first (next_of t c) ms (rw (sym e) at S.2)) k)
      go (inr j) n f =
          from_later c m ms (λ e. let l = rising_low t (key_of t m + 1) ms m R.1 (subst (λ (x : ℕ). In x ms) e j) in omega arith)
          ∙ f j
          ∙ ap (λ (x : List ℕ). c ∷ x) (sym (from_later (next_of t c) m ms (other n)))

  module _ (u p : ℕ) (L : Linked t u) (p1 : 1 ≤ p) (pu : p ≤ u) where
    -- what stands behind a child, or first for 0, is a child
    pub kid_after : (prev c : ℕ) → ((prev ≡ 0 → ⊥) → Kid t u p prev) → (prev ≡ 0 → c ≡ child_of t p) → ((prev ≡ 0 → ⊥) → c ≡ next_of t prev)
        → (c ≡ 0 → ⊥) → Kid t u p c
    kid_after prev c K e q n = go (ℕ_discrete prev 0)
      where
        go : Dec (prev ≡ 0) → Kid t u p c
        go (yes z) = rw (e z) ((L.child p p1 pu).kid (rw (e z) at n))
        go (no m) = rw (q m) ((L.next p prev p1 (K m)).kid (rw (q m) at n))

    pub left_all : (c : ℕ) → c ≡ child_of t p → from_on c (kids_in (nodes t u) p) ≡ kids_in (nodes t u) p
    left_all c e = rw (kids_nodes t u p) (rw e (from_first (child_of t p) (kids_of t u p) (chain_kids t u p L p1 pu)))

    pub left_none : (c : ℕ) → c ≡ 0 → from_on c (kids_in (nodes t u) p) ≡ []
    left_none c e = rw (kids_nodes t u p) (rw e (from_end (child_of t p) (kids_of t u p) (chain_kids t u p L p1 pu)))

    pub left_more : (c d : ℕ) → Kid t u p c → d ≡ next_of t c
        → from_on c (kids_in (nodes t u) p) ≡ c ∷ from_on d (kids_in (nodes t u) p)
    left_more c d K e =
        let up = λ (r s : ℕ) (H : Kid t u p r) (G : Kid t u p s). L.distinct p r s p1 H G in
        let R = kids_rising t p u up u (omega arith) in
        rw (kids_nodes t u p) (rw e (from_next 0 (child_of t p) (kids_of t u p) c R (chain_kids t u p L p1 pu) (in_kids t p u c K)))

  -- a record of a chain is a child
  pub left_kid : (u p m : ℕ) → In m (kids_in (nodes t u) p) → Kid t u p m
  left_kid u p m i = kids_in_lem t p u m (rw (kids_nodes t u p) at i)

-- lists by their first
abbrev first : List ℕ → ℕ
first [] = 0
first (x ∷ xs) = x

abbrev others : List ℕ → List ℕ
others [] = []
others (x ∷ xs) = xs

pub nil_cons : (c : ℕ) (cs : List ℕ) → [] ≡ c ∷ cs → ⊥
nil_cons c cs e = let l = ap length e in omega arith

pub tail_of : {c d : ℕ} {cs ds : List ℕ} → c ∷ cs ≡ d ∷ ds → cs ≡ ds
tail_of e = ap others e

-- what a walk begins with
pub from_head : (x : ℕ) (ys : List ℕ) (c : ℕ) (cs : List ℕ) → from_on x ys ≡ c ∷ cs → x ≡ c
from_head x [] c cs e = absurd (nil_cons c cs e)
from_head x (y ∷ ys) c cs e = go (ℕ_discrete x y) (from_head x ys c cs)
  where
    go : Dec (x ≡ y) → (from_on x ys ≡ c ∷ cs → x ≡ c) → x ≡ c
    go (yes q) f = q ∙ ap first (sym (from_here x y ys q) ∙ e)
    go (no n) f = f (sym (from_later x y ys n) ∙ e)
