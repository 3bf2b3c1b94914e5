-- A walk of the chain of p.
use Rattle.std.proofs.Common.{◌≡◌, ℕ, zero, suc, ◌+◌, ◌-◌, ◌<◌, ◌≤◌, List, refl, arith}
use Rattle.facts.specs.Table.{key_of, child_of, next_of}
use Rattle.facts.specs.Links.{Kid}
use Rattle.facts.specs.Linked.{First, Linked}

-- r is the child of p with the key k, 0 if there is none
pub record Found (t : List ℕ) (u p k r : ℕ) : Type 0 where
  pub none : r ≡ 0 → (s : ℕ) → Kid t u p s → key_of t s ≡ k → ⊥
  pub kid : (r ≡ 0 → ⊥) → Kid t u p r
  pub key : (r ≡ 0 → ⊥) → key_of t r ≡ k

-- the walk that looks for k among the children of p has come to c: each child passed has a key below k
pub record At (t : List ℕ) (u p k c : ℕ) : Type 0 where
  pub low : ℕ
  pub below : low ≤ k
  pub first : First t u p low c

-- what is left of keys up to m at c, 0 at the chain's end
pub left : ℕ → ℕ → ℕ → ℕ
left m zero k = 0
left m (suc c) k = m + 1 - k

pub left_some : (m c k : ℕ) → (c ≡ 0 → ⊥) → left m c k ≡ m + 1 - k
unfolding left
left_some m zero k n = absurd (n refl)
left_some m (suc c) k n = refl

pub left_none : (m c k : ℕ) → c ≡ 0 → left m c k ≡ 0
unfolding left
left_none m zero k n = refl
left_none m (suc c) k n = absurd (omega arith)

module _ (t : List ℕ) (u p : ℕ) (L : Linked t u) (p1 : 1 ≤ p) (pu : p ≤ u) where
  pub at_start : (k c : ℕ) → c ≡ child_of t p → At t u p k c
  at_start k c e = record { low = 0; below = omega arith; first = rw e (L.child p p1 pu) }

  -- the keys rise, so that less is left
  pub at_less : (m k c c' : ℕ) → At t u p k c → (c ≡ 0 → ⊥) → key_of t c ≤ m → c' ≡ next_of t c → left m c' (key_of t c') < left m c (key_of t c)
  at_less m k c c' a n lt e = rw (left_some m c (key_of t c) n) (go c' refl)
    where
      go : (d : ℕ) → c' ≡ d → left m c' (key_of t c') < m + 1 - key_of t c
      go zero z = rw (left_none m c' (key_of t c') z) (omega arith)
      go (suc d) z =
          let n' : c' ≡ 0 → ⊥ = λ y. omega arith in
          let f : First t u p (key_of t c + 1) c' = rw e (L.next p c p1 (a.first.kid n)) in
          let g = f.from n' in
          rw (left_some m c' (key_of t c') n') (omega arith)

  pub at_none : (k c : ℕ) → At t u p k c → c ≡ 0 → Found t u p k 0
  at_none k c a z = record {
    none = λ _ s d e. absurd (omega (arith, a.first.none z s d));
    kid = λ n. absurd (n refl);
    key = λ n. absurd (n refl);
  }
