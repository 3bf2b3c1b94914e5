-- The words below a fact: the child at a word, and what the children from a word on come to.
use Prim.Native.Nat.{ℕ, ◌+◌, ◌*◌, ◌≤◌, ◌<◌}
use mathlib.Core.Path.{◌≡◌, refl, sym, ap, ◌∙◌}
use mathlib.Core.Bool.{Bool, true, false, cond, not, and-eq-true_iff}
use mathlib.Core.Logic.{◌⊎◌, inl, inr}
use mathlib.Core.List.{List, [], ◌∷◌}
use native.Mathlib.Omega.{arith}
use native.Mathlib.Nat.{eq-or-lt_of_le}
use lib.Dec.{eqb, leb}
use lib.ListN.{length}
use borrow.Author.Tests.{eqb-true, eqb-false, not-true, le-leb, lt-leb, leb-true}
use Rattle.limits.specs.Limits.{word_bytes}
use Rattle.facts.specs.Links.{In}
use Rattle.facts.specs.State.{Node, node_of}
use Rattle.paths.specs.Find.{find_in}
use Rattle.paths.specs.Order.{Ordered}
use Rattle.paths.proofs.Reach.{Named, found_named}
use Rattle.list.specs.Types.{has_word}
use Rattle.list.specs.Walk.{sum_of}
use Rattle.budget.proofs.KidLaws.{Child}

-- c is a seen child of r at the key k
pub record At (s : List Node) (r k c : ℕ) : Type 0 where
  pub child : Child s r c
  pub seen : (node_of s c).seen ≡ 1
  pub key : (node_of s c).key ≡ k

pub word_at : (s : List Node) (r w : ℕ) → Ordered s → 1 ≤ r → has_word s r w ≡ true → At s r (word_bytes * w) (find_in s r (word_bytes * w))
word_at s r w O r1 h = record {
  child = record { above = up (eq-or-lt_of_le N.low); within = N.high; parent = N.parent };
  seen = eqb-true (node_of s (find_in s r (word_bytes * w))).seen 1 both.1;
  key = N.key;
}
  where
    both : (not (eqb (find_in s r (word_bytes * w)) 0) ≡ true) × (eqb (node_of s (find_in s r (word_bytes * w))).seen 1 ≡ true)
    both = (and-eq-true_iff (not (eqb (find_in s r (word_bytes * w)) 0)) (eqb (node_of s (find_in s r (word_bytes * w))).seen 1)).0 h

    N : Named s r (word_bytes * w) (length s) (find_in s r (word_bytes * w))
    N = found_named s r (word_bytes * w) (eqb-false (find_in s r (word_bytes * w)) 0 (not-true (eqb (find_in s r (word_bytes * w)) 0) both.0))

    up : (1 ≡ find_in s r (word_bytes * w)) ⊎ (1 < find_in s r (word_bytes * w)) → r < find_in s r (word_bytes * w)
    up (inl e) = let z = ap (λ (x : ℕ). (node_of s x).parent) e in let y = O.root in let p = N.parent in absurd (omega arith)
    up (inr l) = let z = (O.lower (find_in s r (word_bytes * w)) l N.high).1 in let p = N.parent in omega arith

-- the sum of f over those of a list whose keys are k or more
module _ (s : List Node) (f : ℕ → ℕ) where
  abbrev pub from : ℕ → ℕ → ℕ
  from k q = cond (leb k (node_of s q).key) (f q) 0

  from_one : (k j q : ℕ) → k ≤ j → from j q ≤ from k q
  from_one k j q h = go (leb j (node_of s q).key) refl
    where
      go : (b : Bool) → leb j (node_of s q).key ≡ b → cond b (f q) 0 ≤ from k q
      go true e = let l = leb-true j (node_of s q).key e in rw (le-leb k (node_of s q).key (omega arith)) (omega arith)
      go false e = omega arith

  pub from_less : (k j : ℕ) (ms : List ℕ) → k ≤ j → sum_of (from j) ms ≤ sum_of (from k) ms
  from_less k j [] h = omega arith
  from_less k j (m ∷ ms) h = let a = from_one k j m h in let b = from_less k j ms h in omega arith

  -- a child at k counts from k on, and not from a later key on
  pub from_kid : (k j c : ℕ) (ms : List ℕ) → k < j → (node_of s c).key ≡ k → In c ms → sum_of (from j) ms + f c ≤ sum_of (from k) ms
  from_kid k j c [] h e x3 = elim x3 [ ]
  from_kid k j c (m ∷ ms) h e (inl q) =
      let d : (node_of s m).key ≡ k = ap (λ (x : ℕ). (node_of s x).key) (sym q) ∙ e in
      let a : from j m ≡ 0 = rw (lt-leb j (node_of s m).key (omega arith)) refl in
      let b : from k m ≡ f m = rw (le-leb k (node_of s m).key (omega arith)) refl in
      let g : f c ≡ f m = ap f q in
      let l = from_less k j ms (omega arith) in
      omega arith
  from_kid k j c (m ∷ ms) h e (inr i) = let a = from_one k j m (omega arith) in let b = from_kid k j c ms h e i in omega arith

  -- from 0 on all count
  pub from_all : (ms : List ℕ) → sum_of (from 0) ms ≤ sum_of f ms
  from_all [] = omega arith
  from_all (m ∷ ms) =
      let a : from 0 m ≡ f m = rw (le-leb 0 (node_of s m).key (omega arith)) refl in
      let b = from_all ms in
      omega arith
