-- A walk over the children of p: what is left of the list of them, and what is read on the way.
use Rattle.std.proofs.Common.{◌≡◌, ℕ, ◌<◌, ◌≤◌, List, [], ◌∷◌, sym, refl, ap, ◌∙◌, inr, arith}
use Rattle.facts.specs.Table.{key_of, child_of, next_of}
use Rattle.facts.specs.Links.{Kid, In, Seg}
use Rattle.facts.specs.Linked.{Linked}
use Rattle.facts.specs.Linked.{kids_of}
use Rattle.facts.proofs.Kids.{chain_kids, kids_in_lem}
use Rattle.paths.proofs.Walk.{At, left, at_less}

-- the next child of p has a higher key, so that less is left
pub next_less : (t : List ℕ) (u p m c c' : ℕ) → Linked t u → 1 ≤ p → p ≤ u → Kid t u p c → key_of t c ≤ m → c' ≡ next_of t c
    → left m c' (key_of t c') < left m c (key_of t c)
next_less t u p m c c' L p1 pu K lt e =
    let n : c ≡ 0 → ⊥ = λ z. omega (arith, K.above) in
    let A : At t u p (key_of t c) c = record {
      low = key_of t c;
      below = omega arith;
      first = record { none = λ z. absurd (n z); kid = λ _. K; from = λ _. omega arith; least = λ r J h. h };
    } in
    at_less t u p L p1 pu m (key_of t c) c c' A n lt e

-- the walk stands at c, with the children ns before it
pub record Tail (t : List ℕ) (u p c : ℕ) (ns : List ℕ) : Type 0 where
  pub seg : Seg t c ns 0
  pub kids : (m : ℕ) → In m ns → Kid t u p m

-- c is the first of them
pub record More (t : List ℕ) (u p c : ℕ) (ns : List ℕ) : Type 0 where
  pub rest : List ℕ
  pub is : ns ≡ c ∷ rest
  pub tail : Tail t u p (next_of t c) rest

pub tail_more : (t : List ℕ) (u p c : ℕ) (ns : List ℕ) → Tail t u p c ns → (c ≡ 0 → ⊥) → More t u p c ns
tail_more t u p c [] T n = absurd (n T.seg)
tail_more t u p c (m ∷ ns) T n = record {
  rest = ns;
  is = ap (λ (x : ℕ). x ∷ ns) (sym T.seg.0);
  tail = record { seg = rw T.seg.0 T.seg.2; kids = λ m i. T.kids m (inr i) };
}

pub tail_none : (t : List ℕ) (u p c : ℕ) (ns : List ℕ) → Tail t u p c ns → c ≡ 0 → ns ≡ []
tail_none t u p c [] T z = refl
tail_none t u p c (m ∷ ns) T z = absurd (T.seg.1 (sym T.seg.0 ∙ z))

pub tail_start : (t : List ℕ) (u p : ℕ) → Linked t u → 1 ≤ p → p ≤ u → (c : ℕ) → c ≡ child_of t p → Tail t u p c (kids_of t u p)
tail_start t u p L p1 pu c e = record { seg = rw e (chain_kids t u p L p1 pu); kids = λ m i. kids_in_lem t p u m i }
