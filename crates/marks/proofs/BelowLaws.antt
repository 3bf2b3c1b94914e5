-- Nodes at or below a node, and what clearing one branch after another comes to, over states.
use Prim.Native.Nat.{ℕ, zero, suc, ◌+◌, ◌≤◌, ◌<◌}
use mathlib.Core.Path.{◌≡◌, refl, sym, ap, ◌∙◌}
use mathlib.Core.Bool.{Bool, true, false, cond}
use mathlib.Core.Logic.{◌⊎◌, inl, inr, ⊎_elim}
use mathlib.Core.List.{List, map}
use native.Mathlib.Omega.{arith}
use native.Mathlib.Decide.{ℕ_discrete}
use native.Mathlib.Nat.{eq-or-lt_of_le}
use lib.ListN.{length, length-map, get_or-map}
use lib.Seq.{ext_get_or}
use Rattle.limits.specs.Codes as code
use Rattle.limits.specs.Fields as field
use Rattle.facts.specs.State.{Node, bare, node_of}
use Rattle.facts.proofs.Laws.{lt_or_ge}
use Rattle.paths.specs.Update.{with_field, update}
use Rattle.paths.specs.Order.{Ordered}
use Rattle.paths.proofs.Kept.{length_update}
use Rattle.paths.proofs.Reach.{update_other}
use Rattle.paths.proofs.Alike.{map_node}
use Rattle.paths.proofs.Sounds.{update_here}
use Rattle.marks.specs.Names.{is_range, drop_name}
use Rattle.marks.specs.Hints.{without_range, clear_range_hints}
use Rattle.marks.specs.Dropping.{drop_range}
use Rattle.marks.specs.Below.{up_from, AtOrBelow, ClearsBelow}

-- a dropped name leaves key and parent, and there is none to drop again
without_key : (n : Node) → (without_range n).key ≡ n.key
unfolding with_field
without_key n = go (is_range n)
  where
    go : (b : Bool) → (cond b (with_field field.confidence 0 (with_field field.name code.no_name n)) n).key ≡ n.key
    go true = refl
    go false = refl

without_parent : (n : Node) → (without_range n).parent ≡ n.parent
unfolding with_field
without_parent n = go (is_range n)
  where
    go : (b : Bool) → (cond b (with_field field.confidence 0 (with_field field.name code.no_name n)) n).parent ≡ n.parent
    go true = refl
    go false = refl

without_twice : (n : Node) → without_range (without_range n) ≡ without_range n
unfolding with_field
without_twice n = go (is_range n) refl
  where
    go : (b : Bool) → is_range n ≡ b
        → without_range (cond b (with_field field.confidence 0 (with_field field.name code.no_name n)) n) ≡ cond b (with_field field.confidence 0 (with_field field.name code.no_name n)) n
    go true e = refl
    go false e = ap (λ (b : Bool). cond b (with_field field.confidence 0 (with_field field.name code.no_name n)) n) e

-- a node as it was, or without its range name
abbrev pub Either : Node → Node → Type 0
Either n m = (m ≡ n) ⊎ (m ≡ without_range n)

pub either_key : (n m : Node) → Either n m → m.key ≡ n.key
either_key n m (inl e) = ap (λ (x : Node). x.key) e
either_key n m (inr e) = ap (λ (x : Node). x.key) e ∙ without_key n

pub either_parent : (n m : Node) → Either n m → m.parent ≡ n.parent
either_parent n m (inl e) = ap (λ (x : Node). x.parent) e
either_parent n m (inr e) = ap (λ (x : Node). x.parent) e ∙ without_parent n

then_cleared : (n m k : Node) → Either n m → k ≡ without_range m → k ≡ without_range n
then_cleared n m k (inl e) q = q ∙ ap (λ (x : Node). without_range x) e
then_cleared n m k (inr e) q = q ∙ ap (λ (x : Node). without_range x) e ∙ without_twice n

stays_cleared : (n m k : Node) → m ≡ without_range n → Either m k → k ≡ without_range n
stays_cleared n m k e (inl q) = q ∙ e
stays_cleared n m k e (inr q) = q ∙ ap (λ (x : Node). without_range x) e ∙ without_twice n

then_either : (n m k : Node) → Either n m → Either m k → Either n k
then_either n m k e (inl q) = ⊎_elim (λ (w : m ≡ n). inl (q ∙ w)) (λ (w : m ≡ without_range n). inr (q ∙ w)) e
then_either n m k e (inr q) = inr (then_cleared n m k e q)

-- one node changed
module _ (s : List Node) (r : ℕ) (r1 : 1 ≤ r) (rs : r ≤ length s) where
  drop_same : node_of (drop_range s r) r ≡ without_range (node_of s r)
  drop_same = go (is_range (node_of s r))
    where
      go : (b : Bool) → node_of (cond b (drop_name s r) s) r ≡ cond b (with_field field.confidence 0 (with_field field.name code.no_name (node_of s r))) (node_of s r)
      go true =
          let l = length_update s r field.name code.no_name in
          update_here (update s r field.name code.no_name) r field.confidence 0 r1 (omega arith)
          ∙ ap (with_field field.confidence 0) (update_here s r field.name code.no_name r1 rs)
      go false = refl

  drop_other : (q : ℕ) → 1 ≤ q → (q ≡ r → ⊥) → node_of (drop_range s r) q ≡ node_of s q
  drop_other q q1 n = go (is_range (node_of s r))
    where
      go : (b : Bool) → node_of (cond b (drop_name s r) s) q ≡ node_of s q
      go true =
          update_other (update s r field.name code.no_name) r field.confidence 0 q r1 q1 n ∙ update_other s r field.name code.no_name q r1 q1 n
      go false = refl

  drop_either : (q : ℕ) → 1 ≤ q → Either (node_of s q) (node_of (drop_range s r) q)
  drop_either q q1 = go (ℕ_discrete q r)
    where
      go : Dec (q ≡ r) → Either (node_of s q) (node_of (drop_range s r) q)
      go (yes e) = inr (rw e drop_same)
      go (no n) = inl (drop_other q q1 n)

-- going up
node_zero : (s : List Node) → (node_of s 0).parent ≡ 0
unfolding node_of
node_zero s = refl

module _ (s : List Node) (O : Ordered s) where
  parent_low : (q : ℕ) → q ≤ length s → (node_of s q).parent ≤ q
  parent_low zero h = let z = node_zero s in omega arith
  parent_low (suc zero) h = let o = O.root in omega arith
  parent_low (suc (suc q)) h = let l = O.lower (suc (suc q)) (omega arith) h in omega arith

  pub up_low : (q n : ℕ) → q ≤ length s → up_from s q n ≤ q
  unfolding up_from
  up_low q zero h = omega arith
  up_low q (suc n) h = let l = up_low q n h in let p = parent_low (up_from s q n) (omega arith) in omega arith

  module _ (s' : List Node) (same : (q : ℕ) → 1 ≤ q → q ≤ length s → (node_of s' q).parent ≡ (node_of s q).parent) where
    same_zero : (q : ℕ) → q ≤ length s → (node_of s' q).parent ≡ (node_of s q).parent
    same_zero zero h = node_zero s' ∙ sym (node_zero s)
    same_zero (suc q) h = same (suc q) (omega arith) h

    up_same : (q n : ℕ) → q ≤ length s → up_from s' q n ≡ up_from s q n
    unfolding up_from
    up_same q zero h = refl
    up_same q (suc n) h =
        ap (λ (x : ℕ). (node_of s' x).parent) (up_same q n h) ∙ same_zero (up_from s q n) (let l = up_low q n h in omega arith)

    pub below_to : (p q : ℕ) → q ≤ length s → AtOrBelow s p q → AtOrBelow s' p q
    below_to p q h B = record { steps = B.steps; is = up_same q B.steps h ∙ B.is }

    pub below_from : (p q : ℕ) → q ≤ length s → AtOrBelow s' p q → AtOrBelow s p q
    below_from p q h B = record { steps = B.steps; is = sym (up_same q B.steps h) ∙ B.is }

-- k is a child of p
pub record Child (s : List Node) (p k : ℕ) : Type 0 where
  pub from : 1 ≤ k
  pub most : k ≤ length s
  pub parent : (node_of s k).parent ≡ p

-- q is at or below a child of p whose key is below low
pub record Passed (s : List Node) (p low q : ℕ) : Type 0 where
  pub branch : ℕ
  pub child : Child s p branch
  pub key : (node_of s branch).key < low
  pub below : AtOrBelow s branch q

pub below_itself : (s : List Node) (p : ℕ) → AtOrBelow s p p
unfolding up_from
below_itself s p = record { steps = 0; is = refl }

below_parent : (s : List Node) (p k q : ℕ) → (node_of s k).parent ≡ p → AtOrBelow s k q → AtOrBelow s p q
unfolding up_from
below_parent s p k q e B = record { steps = suc B.steps; is = ap (λ (x : ℕ). (node_of s x).parent) B.is ∙ e }

-- what is below p is p or below a child of it
pub below_split : (s : List Node) (p q : ℕ) → Ordered s → 1 ≤ p → q ≤ length s → AtOrBelow s p q → (q ≡ p) ⊎ ((k : ℕ) × Child s p k × AtOrBelow s k q)
unfolding up_from
below_split s p q O p1 h B = go B.steps B.is
  where
    go : (n : ℕ) → up_from s q n ≡ p → (q ≡ p) ⊎ ((k : ℕ) × Child s p k × AtOrBelow s k q)
    go zero e = inl e
    go (suc n) e = inr (
      up_from s q n,
      record {
        from = some (up_from s q n) e;
        most = let l = up_low s O q n h in omega arith;
        parent = e;
      },
      record { steps = n; is = refl },
    )
      where
        some : (x : ℕ) → (node_of s x).parent ≡ p → 1 ≤ x
        some zero w = let z = node_zero s in absurd (omega arith)
        some (suc x) w = omega arith

up_first : (s : List Node) (q n : ℕ) → up_from s (node_of s q).parent n ≡ up_from s q (suc n)
unfolding up_from
up_first s q zero = refl
up_first s q (suc n) = ap (λ (x : ℕ). (node_of s x).parent) (up_first s q n)

-- each node is at the root or below it
pub below_root : (s : List Node) (n q : ℕ) → Ordered s → q ≤ n → 1 ≤ q → q ≤ length s → AtOrBelow s 1 q
below_root s zero q O l q1 h = absurd (omega arith)
below_root s (suc n) q O l q1 h = ⊎_elim
    (λ (e : 1 ≡ q). rw (sym e) (below_itself s 1))
    (λ (g : 1 < q).
    let w = O.lower q g h in
    let B = below_root s n (node_of s q).parent O (omega arith) w.0 (omega arith) in
    record { steps = suc B.steps; is = sym (up_first s q B.steps) ∙ B.is })
    (eq-or-lt_of_le q1)

-- s is s₁ with the branches of the children of p with keys below low cleared
pub record Partly (s₁ : List Node) (p low : ℕ) (s : List Node) : Type 0 where
  pub size : length s ≡ length s₁
  pub either : (q : ℕ) → 1 ≤ q → q ≤ length s₁ → Either (node_of s₁ q) (node_of s q)
  pub below : (q : ℕ) → 1 ≤ q → q ≤ length s₁ → Passed s₁ p low q → node_of s q ≡ without_range (node_of s₁ q)
  pub other : (q : ℕ) → 1 ≤ q → q ≤ length s₁ → (Passed s₁ p low q → ⊥) → node_of s q ≡ node_of s₁ q

pub partly_start : (s : List Node) (p : ℕ) → Partly s p 0 s
partly_start s p = record {
  size = refl;
  either = λ q _ _. inl refl;
  below = λ q _ _ P. let k = P.key in absurd (omega arith);
  other = λ q _ _ _. refl;
}

module _ (s₁ : List Node) (p low : ℕ) (s : List Node) (O : Ordered s₁) (P : Partly s₁ p low s) where
  parents : (q : ℕ) → 1 ≤ q → q ≤ length s₁ → (node_of s q).parent ≡ (node_of s₁ q).parent
  parents q q1 h = either_parent (node_of s₁ q) (node_of s q) (P.either q q1 h)

  -- the branch of c, the first child from low on, cleared too
  pub partly_next : (c : ℕ) (s' : List Node) → Child s₁ p c → low ≤ (node_of s₁ c).key
      → ((k : ℕ) → Child s₁ p k → low ≤ (node_of s₁ k).key → (node_of s₁ c).key ≤ (node_of s₁ k).key)
      → ((k : ℕ) → Child s₁ p k → (node_of s₁ k).key ≡ (node_of s₁ c).key → k ≡ c) → ClearsBelow s c s' → Partly s₁ p ((node_of s₁ c).key + 1) s'
  partly_next c s' C from least one D = record {
    size = D.size ∙ P.size;
    either = λ q q1 h. then_either (node_of s₁ q) (node_of s q) (node_of s' q) (P.either q q1 h) (D.either q q1 (up h));
    below = λ q q1 h B. ⊎_elim
        (λ (A : Passed s₁ p low q). stays_cleared (node_of s₁ q) (node_of s q) (node_of s' q) (P.below q q1 h A) (D.either q q1 (up h)))
        (λ (A : AtOrBelow s₁ c q). then_cleared (node_of s₁ q) (node_of s q) (node_of s' q) (P.either q q1 h) (D.below q q1 (up h) (below_to s₁ O s parents c q h A)))
        (last q B);
    other = λ q q1 h N.
        D.other q q1 (up h) (λ A. N (record { branch = c; child = C; key = omega arith; below = below_from s₁ O s parents c q h A }))
        ∙ P.other q q1 h (λ A. N (record { branch = A.branch; child = A.child; key = let k = A.key in omega arith; below = A.below }));
  }
    where
      up : {q : ℕ} → q ≤ length s₁ → q ≤ length s
      up h = let e = P.size in omega arith

      last : (q : ℕ) → Passed s₁ p ((node_of s₁ c).key + 1) q → Passed s₁ p low q ⊎ AtOrBelow s₁ c q
      last q B = ⊎_elim
          (λ (l : (node_of s₁ B.branch).key < low). inl (record { branch = B.branch; child = B.child; key = l; below = B.below }))
          (λ (g : low ≤ (node_of s₁ B.branch).key).
          let a = least B.branch B.child g in
          let b = B.key in
          let e : B.branch ≡ c = one B.branch B.child (omega arith) in
          inr (rw e at B.below))
          (lt_or_ge (node_of s₁ B.branch).key low)

-- p itself cleared first, then the branches of all its children
pub partly_done : (s₀ : List Node) (p low : ℕ) (s : List Node) → Ordered s₀ → 1 ≤ p → p ≤ length s₀ → length (drop_range s₀ p) ≡ length s₀ → Ordered (drop_range s₀ p)
    → Partly (drop_range s₀ p) p low s → ((k : ℕ) → Child (drop_range s₀ p) p k → (node_of (drop_range s₀ p) k).key < low) → ClearsBelow s₀ p s
partly_done s₀ p low s O₀ p1 ps len O P all = record {
  size = P.size ∙ len;
  either = λ q q1 h. then_either (node_of s₀ q) (node_of s₁ q) (node_of s q) (drop_either s₀ p p1 ps q q1) (P.either q q1 (up h));
  below = λ q q1 h B. ⊎_elim
      (λ (e : q ≡ p). stays_cleared (node_of s₀ q) (node_of s₁ q) (node_of s q) (rw e (drop_same s₀ p p1 ps)) (P.either q q1 (up h)))
      (λ (B' : (k : ℕ) × Child s₁ p k × AtOrBelow s₁ k q). then_cleared (node_of s₀ q) (node_of s₁ q) (node_of s q) (drop_either s₀ p p1 ps q q1)
      (P.below q q1 (up h) (record { branch = B'.0; child = B'.1; key = all B'.0 B'.1; below = B'.2 })))
      (below_split s₁ p q O p1 (up h) (below_to s₀ O₀ s₁ parents₀ p q h B));
  other = λ q q1 h N.
      P.other q q1 (up h) (λ A. N (below_from s₀ O₀ s₁ parents₀ p q h (below_parent s₁ p A.branch q A.child.parent A.below)))
      ∙ drop_other s₀ p p1 ps q q1 (λ e. N (rw e (below_itself s₀ p)));
}
  where
    s₁ : List Node
    s₁ = drop_range s₀ p

    up : {q : ℕ} → q ≤ length s₀ → q ≤ length (drop_range s₀ p)
    up h = omega arith

    parents₀ : (q : ℕ) → 1 ≤ q → q ≤ length s₀ → (node_of (drop_range s₀ p) q).parent ≡ (node_of s₀ q).parent
    parents₀ q q1 h = either_parent (node_of s₀ q) (node_of (drop_range s₀ p) q) (drop_either s₀ p p1 ps q q1)

-- the root and all below it cleared is each node cleared
pub all_cleared : (s s' : List Node) → Ordered s → ClearsBelow s 1 s' → s' ≡ clear_range_hints s
unfolding clear_range_hints node_of
all_cleared s s' O D =
    ext_get_or (bare 0 0) s' (map (λ n. without_range n) s) (D.size ∙ sym (length-map s (λ n. without_range n)))
    (λ i h. let e = D.size in
    D.below (suc i) (omega arith) (omega arith) (below_root s (suc i) (suc i) O (omega arith) (omega arith) (omega arith))
    ∙ sym (get_or-map (λ n. without_range n) s i (bare 0 0)))

-- it moves no path and no number
node_cleared : (s : List Node) (q : ℕ) → node_of (clear_range_hints s) q ≡ without_range (node_of s q)
unfolding clear_range_hints
node_cleared s q = map_node (λ n. without_range n) refl s q
