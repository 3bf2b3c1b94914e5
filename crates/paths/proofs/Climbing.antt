-- A walk of a path up to the root gives its records one by one.
use Rattle.std.proofs.Common.{◌≡◌, ℕ, zero, suc, ◌≤◌, ◌<◌, List, [], ◌∷◌, length, Bool, true, false, cond, eqb, ◌⊎◌, inl, inr, sym, refl, ap, ◌∙◌, arith, eq-or-lt_of_le, le-leb, ⊎_elim, subst}
use borrow.Author.Tests.{eq-eqb, ne_eqb, lt-leb}
use Rattle.facts.specs.Table.{parent_of}
use Rattle.facts.specs.Links.{In}
use Rattle.facts.specs.State.{Node, nodes, node_of}
use Rattle.facts.proofs.Encode.{nodes_get}
use Rattle.paths.specs.Shape.{Shaped}
use Rattle.paths.specs.Walking.{ups, upward}
use Rattle.paths.specs.Depth.{depth_up}

pub ups_end : (n : ℕ) (s : List Node) (r : ℕ) → r ≡ 0 → ups n s r ≡ []
unfolding ups
ups_end zero s r z = refl
ups_end (suc n) s r z = rw (eq-eqb r 0 z) refl

pub ups_more : (n : ℕ) (s : List Node) (r : ℕ) → (r ≡ 0 → ⊥) → ups (suc n) s r ≡ r ∷ ups n s (node_of s r).parent
unfolding ups
ups_more n s r h = rw (ne_eqb r 0 h) refl

module _ (t : List ℕ) (u N : ℕ) (S : Shaped t u N) where
  -- a parent has a lower number, and the root none
  pub parent_less : (r : ℕ) → 1 ≤ r → r ≤ u → (node_of (nodes t u) r).parent < r
  parent_less r r1 ru = go (eq-or-lt_of_le r1)
    where
      is : (node_of (nodes t u) r).parent ≡ parent_of t r
      is = ap (λ (x : Node). x.parent) (nodes_get t u r r1 ru)

      go : (1 ≡ r) ⊎ (1 < r) → (node_of (nodes t u) r).parent < r
      go (inl e) = let z = ap (λ (x : ℕ). parent_of t x) e in let p = S.root_parent in omega (arith, is)
      go (inr l) = let p = (S.linked.up r l ru).1 in omega (arith, is)

  -- more turns than there are records tell nothing more
  ups_enough : (n m r : ℕ) → r ≤ n → r ≤ m → r ≤ u → ups n (nodes t u) r ≡ ups m (nodes t u) r
  ups_enough zero m r hn hm ru = ups_end zero (nodes t u) r (omega arith) ∙ sym (ups_end m (nodes t u) r (omega arith))
  ups_enough (suc n) zero r hn hm ru = ups_end (suc n) (nodes t u) r (omega arith) ∙ sym (ups_end zero (nodes t u) r (omega arith))
  ups_enough (suc n) (suc m) zero hn hm ru = ups_end (suc n) (nodes t u) zero refl ∙ sym (ups_end (suc m) (nodes t u) zero refl)
  ups_enough (suc n) (suc m) (suc r) hn hm ru =
      let l = parent_less (suc r) (omega arith) ru in
      let p = (node_of (nodes t u) (suc r)).parent in
      ups_more n (nodes t u) (suc r) (λ z. omega arith)
      ∙ ap (λ (x : List ℕ). suc r ∷ x) (ups_enough n m p (omega arith) (omega arith) (omega arith))
      ∙ sym (ups_more m (nodes t u) (suc r) (λ z. omega arith))

  pub upward_more : (r p : ℕ) → (r ≡ 0 → ⊥) → r ≤ u → p ≡ (node_of (nodes t u) r).parent → upward (nodes t u) r ≡ r ∷ upward (nodes t u) p
  upward_more zero p n ru e = absurd (n refl)
  upward_more (suc r) p n ru e =
      let l = parent_less (suc r) (omega arith) ru in
      ups_more r (nodes t u) (suc r) n
      ∙ ap (λ (x : List ℕ). suc r ∷ x) (rw e (ups_enough r _ _ (omega arith) (omega arith) (omega arith)))

pub ups_length : (n : ℕ) (s : List Node) (r : ℕ) → length (ups n s r) ≤ n
unfolding ups
ups_length zero s r = omega arith
ups_length (suc n) s r = go (eqb r 0) (ups_length n s (node_of s r).parent)
  where
    go : (b : Bool) → length (ups n s (node_of s r).parent) ≤ n → length (cond b [] (r ∷ ups n s (node_of s r).parent)) ≤ suc n
    go true h = omega arith
    go false h = omega arith

-- "the number of keys on its path": the root alone has none
pub ups_depth : (t : List ℕ) (u N : ℕ) → Shaped t u N → (n r : ℕ) → 1 ≤ r → r ≤ u → r ≤ n → length (ups n (nodes t u) r) ≡ suc (depth_up n (nodes t u) r)
unfolding depth_up
ups_depth t u N S zero r r1 ru rn = absurd (omega arith)
ups_depth t u N S (suc n) r r1 ru rn = go (eq-or-lt_of_le r1) (ups_depth t u N S n (node_of (nodes t u) r).parent)
  where
    s : List Node
    s = nodes t u

    more : length (ups (suc n) s r) ≡ suc (length (ups n s (node_of s r).parent))
    more = ap length (ups_more n s r (λ z. omega arith))

    go : (1 ≡ r) ⊎ (1 < r)
        → (1 ≤ (node_of s r).parent → (node_of s r).parent ≤ u → (node_of s r).parent ≤ n → length (ups n s (node_of s r).parent) ≡ suc (depth_up n s (node_of s r).parent))
        → length (ups (suc n) s r) ≡ suc (depth_up (suc n) s r)
    go (inl e) f =
        let l = parent_less t u N S r r1 ru in
        more ∙ ap (λ (x : List ℕ). suc (length x)) (ups_end n s (node_of s r).parent (omega arith)) ∙ rw (le-leb r 1 (omega arith)) refl
    go (inr l) f =
        let d = parent_less t u N S r r1 ru in
        let o : 1 ≤ (node_of s r).parent = rw (ap (λ (x : Node). x.parent) (nodes_get t u r r1 ru)) (S.linked.up r l ru).0 in
        more ∙ rw (lt-leb r 1 l) (ap suc (f o (omega arith) (omega arith)))

-- the records on a path are used ones
ups_in : (t : List ℕ) (u N : ℕ) → Shaped t u N → (n r m : ℕ) → r ≤ u → In m (ups n (nodes t u) r) → (1 ≤ m) × (m ≤ u)
unfolding ups
ups_in t u N S zero r m ru i = absurd i
ups_in t u N S (suc n) zero m ru i = absurd (subst (λ (x : List ℕ). In m x) (ups_end (suc n) (nodes t u) zero refl) i)
ups_in t u N S (suc n) (suc r) m ru i =
    let l = parent_less t u N S (suc r) (omega arith) ru in
    ⊎_elim (λ (e : m ≡ suc r). (omega arith, omega arith)) (ups_in t u N S n (node_of (nodes t u) (suc r)).parent m (omega arith))
    (subst (λ (x : List ℕ). In m x) (ups_more n (nodes t u) (suc r) (λ z. omega arith)) i)

pub upward_in : (t : List ℕ) (u N : ℕ) → Shaped t u N → (r m : ℕ) → r ≤ u → In m (upward (nodes t u) r) → (1 ≤ m) × (m ≤ u)
upward_in t u N S r m ru i = ups_in t u N S r r m ru i
