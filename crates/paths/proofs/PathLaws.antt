-- Paths and numbers are inverse: no two nodes of a formed state have one path, a path's last key is its node's, and a
-- walk from the root along a node's path finds it.
use Rattle.std.proofs.Common.{◌≡◌, ℕ, zero, suc, ◌-◌, ◌<◌, ◌≤◌, Bool, true, false, cond, eqb, ◌⊎◌, List, [], ◌∷◌, ◌++◌, length, get_or, sym, refl, ap, ◌∙◌, inl, inr, append_assoc, append-nil, eq-or-lt_of_le, arith, ne_eqb, eqb-true}
use mathlib.Core.List.{head-eq_of_cons-eq, tail-eq_of_cons-eq, nil≢cons}
use borrow.Author.Tests.{eqb-false}
use Rattle.facts.specs.Formed.{Formed}
use Rattle.facts.specs.State.{Node, node_of, paths_from, paths}
use Rattle.paths.specs.Find.{find_in}
use Rattle.paths.specs.Order.{Ordered}
use Rattle.paths.specs.Path.{path_of}
use Rattle.paths.specs.Looking.{number_from, number_at}
use Rattle.paths.proofs.Reach.{path_of_lem}
use Rattle.paths.proofs.Lookups.{found_node, found_above, none_found}
use Rattle.paths.proofs.Sounds.{formed_ordered}

nil_end : (ys : List ℕ) (b : ℕ) → [] ≡ ys ++ b ∷ [] → ⊥
nil_end [] b e = nil≢cons e
nil_end (y ∷ ys) b e = nil≢cons e

-- what two paths that are one begin and end with
ends : (xs ys : List ℕ) (a b : ℕ) → xs ++ a ∷ [] ≡ ys ++ b ∷ [] → (xs ≡ ys) × (a ≡ b)
ends [] [] a b e = (refl, head-eq_of_cons-eq e)
ends [] (y ∷ ys) a b e = absurd (nil_end ys b (tail-eq_of_cons-eq e))
ends (x ∷ xs) [] a b e = absurd (nil_end xs a (sym (tail-eq_of_cons-eq e)))
ends (x ∷ xs) (y ∷ ys) a b e =
    let h = ends xs ys a b (tail-eq_of_cons-eq e) in
    ((λ i. head-eq_of_cons-eq e i ∷ h.0 i), h.1)

first_stays : (p : List ℕ) (ps : List (List ℕ)) (s : List Node) → get_or (paths_from (p ∷ ps) s) 0 [] ≡ p
first_stays p ps [] = refl
first_stays p ps (n ∷ s) = first_stays p (ps ++ (get_or (p ∷ ps) (n.parent - 1) [] ++ n.key ∷ []) ∷ []) s

-- the root's path has no keys
pub root_path : (s : List Node) → path_of s 1 ≡ []
unfolding paths
root_path [] = refl
root_path (n ∷ s) = first_stays [] [] s

-- only the root's has none
pub never_root : (s : List Node) (r k : ℕ) (p : List ℕ) → 1 ≤ r → path_of s r ≡ p ++ k ∷ [] → 1 < r
never_root s r k p r1 e = go (eq-or-lt_of_le r1)
  where
    go : (1 ≡ r) ⊎ (1 < r) → 1 < r
    go (inl q) = absurd (nil_end p k (sym (root_path s) ∙ ap (path_of s) q ∙ e))
    go (inr l) = l

-- r is the node with the path p
pub record Stands (s : List Node) (p : List ℕ) (r : ℕ) : Type 0 where
  pub from : 1 ≤ r
  pub within : r ≤ length s
  pub path : path_of s r ≡ p

pub root_stands : (s : List Node) → 1 ≤ length s → Stands s [] 1
root_stands s h = record { from = omega arith; within = h; path = root_path s }

module _ (s : List Node) (O : Ordered s) where
  pub path_some : (r : ℕ) → 1 < r → r ≤ length s → path_of s r ≡ [] → ⊥
  path_some r r1 h e = nil_end (path_of s (node_of s r).parent) (node_of s r).key (sym e ∙ path_of_lem s r O r1 h)

  -- a child's path is its parent's with its key at the end
  pub child_path : (p k r : ℕ) → 1 < r → r ≤ length s → (node_of s r).parent ≡ p → (node_of s r).key ≡ k → path_of s r ≡ path_of s p ++ k ∷ []
  child_path p k r r1 h ep ek = path_of_lem s r O r1 h ∙ (λ i. path_of s (ep i) ++ ek i ∷ [])

  -- and back
  pub path_ends : (r k : ℕ) (p : List ℕ) → 1 < r → r ≤ length s → path_of s r ≡ p ++ k ∷ [] → (path_of s (node_of s r).parent ≡ p) × ((node_of s r).key ≡ k)
  path_ends r k p r1 h e = ends (path_of s (node_of s r).parent) p (node_of s r).key k (sym (path_of_lem s r O r1 h) ∙ e)

  -- what is found has the path that was looked for
  pub found_stands : (p : List ℕ) (r k : ℕ) → Stands s p r → (find_in s r k ≡ 0 → ⊥) → Stands s (p ++ k ∷ []) (find_in s r k)
  found_stands p r k T n =
      let N = found_node s r k n in
      let l = found_above s r k O T.from n in
      record {
        from = N.low;
        within = N.high;
        path = child_path r k (find_in s r k) l N.high N.parent N.key ∙ ap (λ (x : List ℕ). x ++ k ∷ []) T.path;
      }

  from_stands : (p ks : List ℕ) (r : ℕ) → Stands s p r → (number_from s r ks ≡ 0 → ⊥) → Stands s (p ++ ks) (number_from s r ks)
  unfolding number_from
  from_stands p [] r T n = rw (append-nil p) T
  from_stands p (k ∷ ks) r T n = go (eqb (find_in s r k) 0) refl (from_stands (p ++ k ∷ []) ks (find_in s r k)) n
    where
      go : (b : Bool) → eqb (find_in s r k) 0 ≡ b
          → (Stands s (p ++ k ∷ []) (find_in s r k) → (number_from s (find_in s r k) ks ≡ 0 → ⊥) → Stands s (p ++ k ∷ [] ++ ks) (number_from s (find_in s r k) ks))
          → (cond b 0 (number_from s (find_in s r k) ks) ≡ 0 → ⊥)
          → Stands s (p ++ k ∷ ks) (cond b 0 (number_from s (find_in s r k) ks))
      go true e f m = absurd (m refl)
      go false e f m = rw (append_assoc p (k ∷ []) ks) at (f (found_stands p r k T (eqb-false (find_in s r k) 0 e)) m)

  -- a number that a path has is a node's, and the path is the node's
  pub number_stands : (p : List ℕ) → (number_at s p ≡ 0 → ⊥) → Stands s p (number_at s p)
  number_stands p n = from_stands [] p 1 (root_stands s O.some) n

-- one key more at the end of a path
module _ (s : List Node) (k : ℕ) where
  from_more : (r : ℕ) (ks : List ℕ) → 1 ≤ r
      → number_from s r (ks ++ k ∷ []) ≡ cond (eqb (number_from s r ks) 0) 0 (find_in s (number_from s r ks) k)
  unfolding number_from
  from_more r [] r1 = rw (ne_eqb r 0 (λ z. omega arith)) (go (eqb (find_in s r k) 0) refl)
    where
      go : (b : Bool) → eqb (find_in s r k) 0 ≡ b → cond b 0 (find_in s r k) ≡ find_in s r k
      go true e = sym (eqb-true (find_in s r k) 0 e)
      go false e = refl
  from_more r (j ∷ ks) r1 = go (eqb (find_in s r j) 0) refl (from_more (find_in s r j) ks)
    where
      go : (b : Bool) → eqb (find_in s r j) 0 ≡ b
          → (1 ≤ find_in s r j → number_from s (find_in s r j) (ks ++ k ∷ [])
          ≡ cond (eqb (number_from s (find_in s r j) ks) 0) 0 (find_in s (number_from s (find_in s r j) ks) k))
          → cond b 0 (number_from s (find_in s r j) (ks ++ k ∷ []))
          ≡ cond (eqb (cond b 0 (number_from s (find_in s r j) ks)) 0) 0 (find_in s (cond b 0 (number_from s (find_in s r j) ks)) k)
      go true e f = refl
      go false e f = f (let n = eqb-false (find_in s r j) 0 e in omega arith)

  pub number_more : (p : List ℕ) → number_at s (p ++ k ∷ []) ≡ cond (eqb (number_at s p) 0) 0 (find_in s (number_at s p) k)
  number_more p = from_more 1 p (omega arith)

module _ (s : List Node) (F : Formed s) where
  -- n bounds the numbers
  once_to : (n r q : ℕ) → r ≤ n → 1 ≤ r → r ≤ length s → 1 ≤ q → q ≤ length s → path_of s r ≡ path_of s q → r ≡ q
  once_to zero r q rn r1 rl q1 ql e = absurd (omega arith)
  once_to (suc n) r q rn r1 rl q1 ql e = go (once_to n) (eq-or-lt_of_le r1) (eq-or-lt_of_le q1)
    where
      split : (x : ℕ) → 1 < x → x ≤ length s → path_of s x ≡ path_of s (node_of s x).parent ++ (node_of s x).key ∷ []
      split x x1 xl = path_of_lem s x (formed_ordered s F) x1 xl

      go : ((x y : ℕ) → x ≤ n → 1 ≤ x → x ≤ length s → 1 ≤ y → y ≤ length s → path_of s x ≡ path_of s y → x ≡ y)
          → (1 ≡ r) ⊎ (1 < r) → (1 ≡ q) ⊎ (1 < q) → r ≡ q
      go f (inl a) (inl b) = sym a ∙ b
      go f (inl a) (inr m) =
          let l = never_root s r (node_of s q).key (path_of s (node_of s q).parent) r1 (e ∙ split q m ql) in
          absurd (omega arith)
      go f (inr l) (inl b) =
          let m = never_root s q (node_of s r).key (path_of s (node_of s r).parent) q1 (sym e ∙ split r l rl) in
          absurd (omega arith)
      go f (inr l) (inr m) =
          let h = path_ends s (formed_ordered s F) r (node_of s q).key (path_of s (node_of s q).parent) l rl (e ∙ split q m ql) in
          let a = F.lower r l rl in let b = F.lower q m ql in
          F.distinct r q l rl m ql
          (f (node_of s r).parent (node_of s q).parent (omega arith) a.0 (omega arith) b.0 (omega arith) h.0) h.1

  -- no two nodes have one path
  pub path_once : (r q : ℕ) → 1 ≤ r → r ≤ length s → 1 ≤ q → q ≤ length s → path_of s r ≡ path_of s q → r ≡ q
  path_once r q r1 rl q1 ql e = once_to r r q (omega arith) r1 rl q1 ql e

  -- a child is found by its parent and key
  pub child_found : (p k r : ℕ) → 1 ≤ p → 1 < r → r ≤ length s → (node_of s r).parent ≡ p → (node_of s r).key ≡ k → find_in s p k ≡ r
  child_found p k r p1 r1 h ep ek =
      let n : find_in s p k ≡ 0 → ⊥ = λ z. none_found s p k z r (omega arith) h ep ek in
      let N = found_node s p k n in
      F.distinct (find_in s p k) r (found_above s p k (formed_ordered s F) p1 n) N.high r1 h (N.parent ∙ sym ep) (N.key ∙ sym ek)

  -- a node with the path of p and one key more is a child of p
  pub stands_child : (path : List ℕ) (p k r : ℕ) → Stands s path p → Stands s (path ++ k ∷ []) r → (p < r) × ((node_of s r).parent ≡ p) × ((node_of s r).key ≡ k)
  stands_child path p k r T D =
      let r1 = never_root s r k path D.from D.path in
      let e = path_ends s (formed_ordered s F) r k path r1 D.within D.path in
      let l = F.lower r r1 D.within in let w = D.within in
      let q = path_once (node_of s r).parent p l.0 (omega arith) T.from T.within (e.0 ∙ sym T.path) in
      (omega arith, q, e.1)

  -- the number of a node's path is the node's; n bounds the numbers
  number_to : (n r : ℕ) → r ≤ n → 1 ≤ r → r ≤ length s → number_at s (path_of s r) ≡ r
  unfolding number_from
  number_to zero r rn r1 rl = absurd (omega arith)
  number_to (suc n) r rn r1 rl = go (number_to n) (eq-or-lt_of_le r1)
    where
      go : ((x : ℕ) → x ≤ n → 1 ≤ x → x ≤ length s → number_at s (path_of s x) ≡ x) → (1 ≡ r) ⊎ (1 < r) → number_at s (path_of s r) ≡ r
      go f (inl e) = ap (number_at s) (ap (path_of s) (sym e) ∙ root_path s) ∙ e
      go f (inr l) =
          let p = (node_of s r).parent in let k = (node_of s r).key in
          let w = F.lower r l rl in
          let e : number_at s (path_of s p) ≡ p = f p (omega arith) w.0 (omega arith) in
          ap (number_at s) (path_of_lem s r (formed_ordered s F) l rl) ∙ number_more s k (path_of s p)
          ∙ (λ i. cond (eqb (e i) 0) 0 (find_in s (e i) k))
          ∙ (λ i. cond (ne_eqb p 0 (λ z. omega arith) i) 0 (find_in s p k))
          ∙ child_found p k r w.0 l rl refl refl

  pub number_of : (r : ℕ) → 1 ≤ r → r ≤ length s → number_at s (path_of s r) ≡ r
  number_of r r1 h = number_to r r (omega arith) r1 h

  pub stands_number : (p : List ℕ) (r : ℕ) → Stands s p r → number_at s p ≡ r
  stands_number p r T = ap (number_at s) (sym T.path) ∙ number_of r T.from T.within
