-- Sums over the numbers 1 to n, and the sum over a path's children as one of them.
use Prim.Native.Nat.{ℕ, zero, suc, ◌+◌, ◌≤◌, ◌<◌}
use mathlib.Core.Path.{◌≡◌, refl, sym, ap, ◌∙◌}
use mathlib.Core.Bool.{Bool, true, false, cond}
use mathlib.Core.Logic.{◌⊎◌, inl, inr}
use mathlib.Core.List.{List, [], ◌∷◌}
use native.Mathlib.Omega.{arith}
use native.Mathlib.Nat.{eq-or-lt_of_le}
use lib.Dec.{eqb, leb, ltb}
use lib.ListN.{length}
use borrow.Author.Tests.{eq-eqb, ne_eqb, lt-ltb, lt-leb}
use Rattle.facts.specs.State.{Node, node_of, ins, kids, kids_in}
use Rattle.list.specs.Walk.{sum_of}

-- the sum of f over 1 to n
unfoldable pub sum_to : (ℕ → ℕ) → ℕ → ℕ
sum_to f zero = 0
sum_to f (suc n) = sum_to f n + f (suc n)

pub to_same : (f g : ℕ → ℕ) (n : ℕ) → ((q : ℕ) → 1 ≤ q → q ≤ n → f q ≡ g q) → sum_to f n ≡ sum_to g n
unfolding sum_to
to_same f g zero e = refl
to_same f g (suc n) e = λ i. to_same f g n (λ q a b. e q a (omega arith)) i + e (suc n) (omega arith) (omega arith) i

pub to_add : (f g : ℕ → ℕ) (n : ℕ) → sum_to (λ q. f q + g q) n ≡ sum_to f n + sum_to g n
unfolding sum_to
to_add f g zero = refl
to_add f g (suc n) = let e = to_add f g n in omega arith

to_zero : (n : ℕ) → sum_to (λ q. 0) n ≡ 0
unfolding sum_to
to_zero zero = refl
to_zero (suc n) = let e = to_zero n in omega arith

-- by rows or by columns
pub to_swap : (h : ℕ → ℕ → ℕ) (m n : ℕ) → sum_to (λ p. sum_to (h p) n) m ≡ sum_to (λ q. sum_to (λ p. h p q) m) n
unfolding sum_to
to_swap h zero n = sym (to_zero n)
to_swap h (suc m) n =
    let e = to_swap h m n in
    let a = to_add (λ q. sum_to (λ p. h p q) m) (h (suc m)) n in
    omega arith

-- all but the first
pub to_first : (f : ℕ → ℕ) (n : ℕ) → 1 ≤ n → sum_to f n ≡ f 1 + sum_to (λ q. cond (leb q 1) 0 (f q)) n
unfolding sum_to
to_first f zero h = absurd (omega arith)
to_first f (suc zero) h = omega arith
to_first f (suc (suc n)) h =
    let e = to_first f (suc n) (omega arith) in
    let l : leb (suc (suc n)) 1 ≡ false = lt-leb (suc (suc n)) 1 (omega arith) in
    let v = ap (λ (b : Bool). cond b 0 (f (suc (suc n)))) l in
    omega arith

-- a sum of which one number alone counts
module _ (c v x : ℕ) where
  abbrev pub at : ℕ → ℕ
  at p = cond (eqb x p) (cond (ltb p c) v 0) 0

  to_none : (n : ℕ) → ((p : ℕ) → 1 ≤ p → p ≤ n → x ≡ p → ⊥) → sum_to at n ≡ 0
  to_none n out = to_same at (λ p. 0) n (λ p a b. ap (λ (y : Bool). cond y (cond (ltb p c) v 0) 0) (ne_eqb x p (out p a b))) ∙ to_zero n

  pub to_root : (n : ℕ) → x ≡ 0 → sum_to at n ≡ 0
  to_root n z = to_none n (λ p a b e. omega arith)

  pub to_one : (n : ℕ) → 1 ≤ x → x ≤ n → x < c → sum_to at n ≡ v
  unfolding sum_to
  to_one zero a b l = absurd (omega arith)
  to_one (suc n) a b l = go (λ h. to_one n a h l) (eq-or-lt_of_le b)
    where
      go : (x ≤ n → sum_to at n ≡ v) → (x ≡ suc n) ⊎ (x < suc n) → sum_to at n + at (suc n) ≡ v
      go f (inl e) =
          let z = to_none n (λ p p1 pn y. omega arith) in
          let w : at (suc n) ≡ v = rw (eq-eqb x (suc n) e, lt-ltb (suc n) c (omega arith)) refl in
          omega arith
      go f (inr h) =
          let z = f (omega arith) in
          let w : at (suc n) ≡ 0 = rw (ne_eqb x (suc n) (λ y. omega arith)) refl in
          omega arith

-- the sum over a path's children
module _ (key parent f : ℕ → ℕ) (p : ℕ) where
  sum_ins : (r : ℕ) (ms : List ℕ) → sum_of f (ins key r ms) ≡ sum_of f ms + f r
  unfolding ins
  sum_ins r [] = omega arith
  sum_ins r (m ∷ ms) = go (ltb (key r) (key m)) (sum_ins r ms)
    where
      go : (b : Bool) → sum_of f (ins key r ms) ≡ sum_of f ms + f r → sum_of f (cond b (r ∷ m ∷ ms) (m ∷ ins key r ms)) ≡ sum_of f (m ∷ ms) + f r
      go true e = omega arith
      go false e = omega arith

  sum_kids : (n : ℕ) → sum_of f (kids key parent p n) ≡ sum_to (λ q. at q (f q) (parent q) p) n
  unfolding kids sum_to
  sum_kids zero = refl
  sum_kids (suc n) = go (eqb (parent (suc n)) p) (ltb p (suc n)) (sum_kids n)
    where
      go : (a b : Bool) → sum_of f (kids key parent p n) ≡ sum_to (λ q. at q (f q) (parent q) p) n
          → sum_of f (cond a (cond b (ins key (suc n) (kids key parent p n)) (kids key parent p n)) (kids key parent p n))
          ≡ sum_to (λ q. at q (f q) (parent q) p) n + cond a (cond b (f (suc n)) 0) 0
      go true true e = let w = sum_ins (suc n) (kids key parent p n) in omega arith
      go true false e = omega arith
      go false b e = omega arith

pub kids_sum : (s : List Node) (f : ℕ → ℕ) (p : ℕ) → sum_of f (kids_in s p) ≡ sum_to (λ q. at q (f q) (node_of s q).parent p) (length s)
unfolding kids_in
kids_sum s f p = sum_kids (λ r. (node_of s r).key) (λ r. (node_of s r).parent) f p (length s)
