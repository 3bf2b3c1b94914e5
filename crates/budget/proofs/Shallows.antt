-- From the root the walk comes to each fact at its own depth: it passes exactly if no fact lies too deep.
use Prim.Native.Nat.{ℕ, zero, suc, ◌≤◌, ◌<◌}
use mathlib.Core.Path.{◌≡◌, refl, sym, ap, ◌∙◌}
use mathlib.Core.Bool.{Bool, true, false, cond, not, ◌&&◌, ◌||◌, and-eq-true_iff}
use mathlib.Core.Logic.{◌⊎◌, inl, inr, ⊎_elim}
use mathlib.Core.List.{List, [], ◌∷◌}
use native.Mathlib.Omega.{arith}
use native.Mathlib.Nat.{eq-or-lt_of_le}
use lib.Dec.{eqb, leb}
use lib.ListN.{length}
use borrow.Author.Tests.{eq-eqb, eqb-true, le-leb, lt-leb, leb-true, leb-false}
use Rattle.limits.specs.Limits.{depth_max}
use Rattle.facts.specs.Links.{In}
use Rattle.facts.specs.State.{Node, node_of, kids_in}
use Rattle.paths.specs.Order.{Ordered, UnderSeen}
use Rattle.paths.specs.Depth.{depth_up, depth_of}
use Rattle.list.specs.Budget.{shallow_to, shallow}
use Rattle.list.specs.Walk.{all_of, shallow_below}
use Rattle.budget.proofs.KidLaws.{Child, kid_child, child_kid}
use Rattle.budget.proofs.LevelLaws.{shallow_is}

pub all_in : (f : ℕ → Bool) (ms : List ℕ) → all_of f ms ≡ true → (m : ℕ) → In m ms → f m ≡ true
all_in f [] e m x'' = elim x'' [ ]
all_in f (x ∷ ms) e m (inl q) = ap f q ∙ ((and-eq-true_iff (f x) (all_of f ms)).0 e).0
all_in f (x ∷ ms) e m (inr i) = all_in f ms ((and-eq-true_iff (f x) (all_of f ms)).0 e).1 m i

in_all : (f : ℕ → Bool) (ms : List ℕ) → ((m : ℕ) → In m ms → f m ≡ true) → all_of f ms ≡ true
in_all f [] h = refl
in_all f (x ∷ ms) h = (and-eq-true_iff (f x) (all_of f ms)).1 (h x (inl refl), in_all f ms (λ m i. h m (inr i)))

same_bool : (a b : Bool) → (a ≡ true → b ≡ true) → (b ≡ true → a ≡ true) → a ≡ b
same_bool true b f g = sym (f refl)
same_bool false true f g = g refl
same_bool false false f g = refl

module _ (s : List Node) (O : Ordered s) where
  -- more turns than the number tell nothing more
  turns : (d e r : ℕ) → r ≤ d → r ≤ e → r ≤ length s → depth_up d s r ≡ depth_up e s r
  unfolding depth_up
  turns zero zero r hd he rl = refl
  turns zero (suc e) r hd he rl = rw (le-leb r 1 (omega arith)) refl
  turns (suc d) zero r hd he rl = rw (le-leb r 1 (omega arith)) refl
  turns (suc d) (suc e) r hd he rl = go (leb r 1) refl (λ h. let p = O.lower r h rl in
      let a = p.1 in turns d e (node_of s r).parent (omega arith) (omega arith) (omega arith))
    where
      go : (b : Bool) → leb r 1 ≡ b → (1 < r → depth_up d s (node_of s r).parent ≡ depth_up e s (node_of s r).parent)
          → cond b 0 (suc (depth_up d s (node_of s r).parent)) ≡ cond b 0 (suc (depth_up e s (node_of s r).parent))
      go true q f = refl
      go false q f = ap suc (f (leb-false r 1 q))

  depth_root : depth_of s 1 ≡ 0
  unfolding depth_of depth_up
  depth_root = refl

  depth_turn : (n q : ℕ) → 1 < q → depth_up (suc n) s q ≡ suc (depth_up n s (node_of s q).parent)
  unfolding depth_up
  depth_turn n q h = rw (lt-leb q 1 h) refl

  -- a child lies one deeper
  depth_child : (p q : ℕ) → 1 ≤ p → Child s p q → depth_of s q ≡ suc (depth_of s p)
  unfolding depth_of
  depth_child p q p1 C =
      let a = C.above in let b = C.within in
      turns q (suc q) q (omega arith) (omega arith) b ∙ depth_turn q q (omega arith)
      ∙ ap (λ (x : ℕ). suc (depth_up q s x)) C.parent ∙ ap suc (turns q p p (omega arith) (omega arith) (omega arith))

  -- each fact up to n lies no deeper than that
  abbrev Within : ℕ → Type 0
  Within n = (r : ℕ) → 1 ≤ r → r ≤ n → (node_of s r).seen ≡ 1 → depth_of s r ≤ depth_max

  within_shallow : (n : ℕ) → Within n → shallow_to s n ≡ true
  unfolding shallow_to
  within_shallow zero h = refl
  within_shallow (suc n) h = (and-eq-true_iff (shallow_to s n) (not (eqb (node_of s (suc n)).seen 1) || leb (depth_of s (suc n)) depth_max)).1
      (within_shallow n (λ r a b. h r a (omega arith)), one (eqb (node_of s (suc n)).seen 1) refl)
    where
      one : (b : Bool) → eqb (node_of s (suc n)).seen 1 ≡ b → (not b || leb (depth_of s (suc n)) depth_max) ≡ true
      one true e = le-leb (depth_of s (suc n)) depth_max (h (suc n) (omega arith) (omega arith) (eqb-true (node_of s (suc n)).seen 1 e))
      one false e = refl

  shallow_within : (n : ℕ) → shallow_to s n ≡ true → Within n
  unfolding shallow_to
  shallow_within zero e r a b v = absurd (omega arith)
  shallow_within (suc n) e r a b v = go (λ f. shallow_within n f r a) (eq-or-lt_of_le b)
    where
      x : (shallow_to s n ≡ true) × ((not (eqb (node_of s (suc n)).seen 1) || leb (depth_of s (suc n)) depth_max) ≡ true)
      x = (and-eq-true_iff (shallow_to s n) (not (eqb (node_of s (suc n)).seen 1) || leb (depth_of s (suc n)) depth_max)).0 e

      go : (shallow_to s n ≡ true → r ≤ n → (node_of s r).seen ≡ 1 → depth_of s r ≤ depth_max) → (r ≡ suc n) ⊎ (r < suc n) → depth_of s r ≤ depth_max
      go f (inl q) =
          let y = eq-eqb (node_of s (suc n)).seen 1 (ap (λ (z : ℕ). (node_of s z).seen) (sym q) ∙ v) in
          let w = leb-true (depth_of s (suc n)) depth_max (rw y at x.1) in
          rw q w
      go f (inr h) = f x.0 (omega arith) v

  -- what a walk that passes says of a fact
  module _ (depth r : ℕ) (r1 : 1 ≤ r) (rl : r ≤ length s) (v : (node_of s r).seen ≡ 1) (e : shallow_below (length s) s depth r ≡ true) where
    both : (leb depth depth_max && all_of (shallow_below (length s) s (suc depth)) (kids_in s r)) ≡ true
    both = let w = sym (shallow_is s r r1 rl depth) ∙ e in rw (eq-eqb (node_of s r).seen 1 v) at w

    pass_here : depth ≤ depth_max
    pass_here = leb-true depth depth_max ((and-eq-true_iff (leb depth depth_max) (all_of (shallow_below (length s) s (suc depth)) (kids_in s r))).0 both).0

    pub pass_kid : (q : ℕ) → Child s r q → shallow_below (length s) s (suc depth) q ≡ true
    pass_kid q C =
        all_in (shallow_below (length s) s (suc depth)) (kids_in s r)
        ((and-eq-true_iff (leb depth depth_max) (all_of (shallow_below (length s) s (suc depth)) (kids_in s r))).0 both).1 q (child_kid s r q C)

  -- a walk that passes at the root passes at each fact
  each : UnderSeen s → shallow_below (length s) s 0 1 ≡ true → (n r : ℕ) → r ≤ n → 1 ≤ r → r ≤ length s → (node_of s r).seen ≡ 1
      → shallow_below (length s) s (depth_of s r) r ≡ true
  each U e zero r h r1 rl v = absurd (omega arith)
  each U e (suc n) r h r1 rl v = ⊎_elim
      (λ (q : 1 ≡ r). rw (sym q) (rw depth_root e))
      (λ (l : 1 < r). let p = O.lower r l rl in let a = p.1 in
      let C : Child s (node_of s r).parent r = record { above = a; within = rl; parent = refl } in
      let w = U.parent r l rl v in
      rw (depth_child (node_of s r).parent r p.0 C)
      (pass_kid (depth_of s (node_of s r).parent) (node_of s r).parent p.0 (omega arith) w
      (each U e n (node_of s r).parent (omega arith) p.0 (omega arith) w) r C))
      (eq-or-lt_of_le r1)

  -- and where no fact lies too deep, it passes
  passes : Within (length s) → (n r : ℕ) → 1 ≤ r → r ≤ length s → shallow_below n s (depth_of s r) r ≡ true
  unfolding shallow_below
  passes h zero r r1 rl = refl
  passes h (suc n) r r1 rl = go (eqb (node_of s r).seen 1) refl (in_all (shallow_below n s (suc (depth_of s r))) (kids_in s r)
      (λ m i. let C = kid_child s r m i in let a = C.above in
      ap (λ (x : ℕ). shallow_below n s x m) (sym (depth_child r m r1 C)) ∙ passes h n m (omega arith) C.within))
    where
      go : (b : Bool) → eqb (node_of s r).seen 1 ≡ b → all_of (shallow_below n s (suc (depth_of s r))) (kids_in s r) ≡ true
          → (not b || (leb (depth_of s r) depth_max && all_of (shallow_below n s (suc (depth_of s r))) (kids_in s r))) ≡ true
      go true e f = (and-eq-true_iff (leb (depth_of s r) depth_max) (all_of (shallow_below n s (suc (depth_of s r))) (kids_in s r))).1
          (le-leb (depth_of s r) depth_max (h r r1 rl (eqb-true (node_of s r).seen 1 e)), f)
      go false e f = refl

  -- the walk's test of the depth is the definition's
  pub shallow_walk : UnderSeen s → shallow_below (length s) s 0 1 ≡ shallow s
  unfolding shallow
  shallow_walk U = same_bool (shallow_below (length s) s 0 1) (shallow_to s (length s))
      (λ e. within_shallow (length s) (λ r r1 rl v. pass_here (depth_of s r) r r1 rl v (each U e (length s) r rl r1 rl v)))
      (λ e. ap (λ (x : ℕ). shallow_below (length s) s x 1) (sym depth_root) ∙ passes (shallow_within (length s) e) (length s) 1 (omega arith) O.some)
