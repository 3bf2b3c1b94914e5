-- A new child: the links and the state after the stores.
use Rattle.std.proofs.Common.{◌≡◌, ℕ, zero, suc, ◌+◌, ◌*◌, ◌<◌, ◌≤◌, ◌⊎◌, List, [], ◌∷◌, ◌++◌, length, sym, refl, ap, ◌∙◌, inl, inr, ⊎_elim, eq-or-lt_of_le, add-one, arith}
use native.Mathlib.Decide.{ℕ_discrete}
use Rattle.limits.specs.Limits.{record_width}
use Rattle.facts.specs.Table.{fld, key_of, parent_of, child_of, next_of, Blank}
use Rattle.facts.specs.Access.{put}
use Rattle.facts.specs.Links.{Kid}
use Rattle.facts.specs.Linked.{First, Linked}
use Rattle.facts.specs.State.{node_at, nodes, bare}
use Rattle.facts.proofs.Laws.{lt_or_ge, length_put, put_same, put_else}
use Rattle.paths.specs.Shape.{Shaped}
use Rattle.paths.specs.Represents.{Represents}
use Rattle.paths.specs.Place.{Place}
use Rattle.paths.proofs.Spotting.{Absent, Gap, gap}

-- t' is t after the stores
pub record Grown (t : List ℕ) (u p k prev c : ℕ) (t' : List ℕ) : Type 0 where
  pub len : length t' ≡ length t
  pub key : key_of t' (u + 1) ≡ k
  pub parent : parent_of t' (u + 1) ≡ p
  pub child : child_of t' (u + 1) ≡ 0
  pub next : next_of t' (u + 1) ≡ c
  pub rest : (f : ℕ) → 3 < f → f < record_width → fld t' (u + 1) f ≡ 0
  pub same : (r f : ℕ) → 1 ≤ r → r ≤ u → f < record_width → (f ≡ 2 → ⊥) → (f ≡ 3 → ⊥) → fld t' r f ≡ fld t r f
  pub children : (r : ℕ) → 1 ≤ r → r ≤ u → (r ≡ p → prev ≡ 0 → ⊥) → child_of t' r ≡ child_of t r
  pub head : prev ≡ 0 → child_of t' p ≡ u + 1
  pub nexts : (r : ℕ) → 1 ≤ r → r ≤ u → (r ≡ prev → ⊥) → next_of t' r ≡ next_of t r
  pub link : (prev ≡ 0 → ⊥) → next_of t' prev ≡ u + 1
  pub beyond : (r f : ℕ) → u + 1 < r → f < record_width → fld t' r f ≡ fld t r f

module _ (t : List ℕ) (u p k prev c : ℕ) (t' : List ℕ) (L : Linked t u) (p1 : 1 ≤ p) (pu : p ≤ u)
    (A : Absent t u p k) (Q : Gap t u p k prev c) (G : Grown t u p k prev c t') where
  key_same : (r : ℕ) → 1 ≤ r → r ≤ u → key_of t' r ≡ key_of t r
  key_same r r1 ru = G.same r 0 r1 ru (omega arith) (λ e. omega arith) (λ e. omega arith)

  parent_same : (r : ℕ) → 1 ≤ r → r ≤ u → parent_of t' r ≡ parent_of t r
  parent_same r r1 ru = G.same r 1 r1 ru (omega arith) (λ e. omega arith) (λ e. omega arith)

  -- the children of q are those that it had, and of p the new record too
  old : (q r : ℕ) → 1 ≤ q → Kid t u q r → Kid t' (u + 1) q r
  old q r q1 K =
      let a = K.above in let b = K.used in
      record { above = K.above; used = omega arith; parent = parent_same r (omega arith) b ∙ K.parent }

  new : Kid t' (u + 1) p (u + 1)
  new = record { above = omega arith; used = omega arith; parent = G.parent }

  was : (q r : ℕ) → 1 ≤ q → Kid t' (u + 1) q r → r ≤ u → Kid t u q r
  was q r q1 K h = let a = K.above in record { above = K.above; used = h; parent = sym (parent_same r (omega arith) h) ∙ K.parent }

  cases : (q r : ℕ) → 1 ≤ q → Kid t' (u + 1) q r → Kid t u q r ⊎ ((r ≡ u + 1) × (q ≡ p))
  cases q r q1 K = ⊎_elim
      (λ (e : r ≡ u + 1). inr (e, sym K.parent ∙ ap (λ (x : ℕ). parent_of t' x) e ∙ G.parent))
      (λ (l : r < u + 1). inl (was q r q1 K (omega arith)))
      (eq-or-lt_of_le K.used)

  -- a key in t' of a child of q in t
  kid_key : (q r : ℕ) → 1 ≤ q → Kid t u q r → key_of t' r ≡ key_of t r
  kid_key q r q1 K = let a = K.above in key_same r (omega arith) K.used

  -- the first from b on stays the first, where the new record does not come before it
  carry : (q b d : ℕ) → 1 ≤ q → First t u q b d → (q ≡ p → d ≡ 0 → k < b) → (q ≡ p → b ≤ k → (d ≡ 0 → ⊥) → key_of t d ≤ k) → First t' (u + 1) q b d
  carry q b d q1 F f g = record {
    none = λ z r K. ⊎_elim
        (λ (J : Kid t u q r). rw (kid_key q r q1 J) (F.none z r J))
        (λ (w : (r ≡ u + 1) × (q ≡ p)). rw (ap (λ (x : ℕ). key_of t' x) w.0 ∙ G.key) (f w.1 z))
        (cases q r q1 K);
    kid = λ z. old q d q1 (F.kid z);
    from = λ z. rw (kid_key q d q1 (F.kid z)) (F.from z);
    least = λ r K h. ⊎_elim
        (λ (J : Kid t u q r). low d r J (ℕ_discrete d 0) h)
        (λ (w : (r ≡ u + 1) × (q ≡ p)). mine r w (ℕ_discrete d 0) h)
        (cases q r q1 K);
  }
    where
      low : (e r : ℕ) → Kid t u q r → Dec (d ≡ 0) → b ≤ key_of t' r → key_of t' d ≤ key_of t' r
      low e r J (yes z) h = let x = F.none z r J in let y = kid_key q r q1 J in absurd (omega arith)
      low e r J (no z) h =
          let y = kid_key q r q1 J in
          let x = kid_key q d q1 (F.kid z) in
          let l = F.least r J (omega arith) in
          omega arith

      mine : (r : ℕ) → (r ≡ u + 1) × (q ≡ p) → Dec (d ≡ 0) → b ≤ key_of t' r → key_of t' d ≤ key_of t' r
      mine r w (yes z) h =
          let y : key_of t' r ≡ k = ap (λ (x : ℕ). key_of t' x) w.0 ∙ G.key in
          let x = f w.1 z in
          absurd (omega arith)
      mine r w (no z) h =
          let y : key_of t' r ≡ k = ap (λ (x : ℕ). key_of t' x) w.0 ∙ G.key in
          let x = kid_key q d q1 (F.kid z) in
          let l = g w.1 (omega arith) z in
          omega arith

  -- a child of p with a key below k, other than prev, comes before prev
  under : (r : ℕ) → Kid t u p r → key_of t r < k → (r ≡ prev → ⊥) → (prev ≡ 0 → ⊥) × (key_of t r < key_of t prev)
  under r K h n = go (ℕ_discrete prev 0)
    where
      go : Dec (prev ≡ 0) → (prev ≡ 0 → ⊥) × (key_of t r < key_of t prev)
      go (yes z) = let x = Q.above z r K in absurd (omega arith)
      go (no z) =
          (z, ⊎_elim (λ (e : key_of t r ≡ key_of t prev). absurd (n (L.distinct p r prev p1 K (Q.kid z) e))) (λ l. l) (eq-or-lt_of_le (Q.last z r K h)))

  child_first : (q : ℕ) → 1 ≤ q → q ≤ u → First t' (u + 1) q 0 (child_of t' q)
  child_first q q1 qu = go (ℕ_discrete q p) (ℕ_discrete prev 0)
    where
      go : Dec (q ≡ p) → Dec (prev ≡ 0) → First t' (u + 1) q 0 (child_of t' q)
      go (no n) d = rw (G.children q q1 qu (λ e. absurd (n e))) (carry q 0 (child_of t q) q1 (L.child q q1 qu) (λ e. absurd (n e)) (λ e. absurd (n e)))
      go (yes e) (no z) = rw (G.children q q1 qu (λ _ y. z y)) (carry q 0 (child_of t q) q1 (L.child q q1 qu)
          (λ _ y. let K = Q.kid z in let x = (L.child p p1 pu).none (ap (λ (x : ℕ). child_of t x) (sym e) ∙ y) prev K in absurd (omega arith))
          (λ _ _ y. let K = Q.kid z in let x = Q.below z in
          let l = (L.child p p1 pu).least prev K (omega arith) in
          let w = ap (λ (x : ℕ). key_of t (child_of t x)) e in omega arith))
      go (yes e) (yes z) = rw e (rw (G.head z) (record {
        none = λ y. absurd (omega arith);
        kid = λ _. new;
        from = λ _. omega arith;
        least = λ r K _. ⊎_elim
            (λ (J : Kid t u p r). let x = Q.above z r J in let y = kid_key p r p1 J in let w = G.key in omega arith)
            (λ (w : (r ≡ u + 1) × (p ≡ p)). let x = ap (λ (x : ℕ). key_of t' x) w.0 in omega arith)
            (cases p r p1 K);
      }))

  next_new : First t' (u + 1) p (key_of t' (u + 1) + 1) (next_of t' (u + 1))
  next_new = rw (G.key, G.next) (carry p (k + 1) c p1 Q.first (λ _ _. omega arith) (λ _ h. absurd (omega arith)))

  next_prev : (prev ≡ 0 → ⊥) → First t' (u + 1) p (key_of t prev + 1) (u + 1)
  next_prev z = record {
    none = λ y. absurd (omega arith);
    kid = λ _. new;
    from = λ _. let x = Q.below z in let w = G.key in omega arith;
    least = λ r K h. ⊎_elim
        (λ (J : Kid t u p r). let y = kid_key p r p1 J in let w = G.key in
        ⊎_elim (λ (l : key_of t r < k). let x = Q.last z r J l in absurd (omega arith)) (λ l. omega arith) (lt_or_ge (key_of t r) k))
        (λ (w : (r ≡ u + 1) × (p ≡ p)). let x = ap (λ (x : ℕ). key_of t' x) w.0 in omega arith)
        (cases p r p1 K);
  }

  next_old : (q r : ℕ) → 1 ≤ q → Kid t u q r → First t' (u + 1) q (key_of t r + 1) (next_of t' r)
  next_old q r q1 K = go (ℕ_discrete r prev)
    where
      F : First t u q (key_of t r + 1) (next_of t r)
      F = L.next q r q1 K

      r1 : 1 ≤ r
      r1 = let a = K.above in omega arith

      here : q ≡ p → Kid t u p r
      here e = rw e at K

      go : Dec (r ≡ prev) → First t' (u + 1) q (key_of t r + 1) (next_of t' r)
      go (yes e) =
          let z : prev ≡ 0 → ⊥ = λ y. omega arith in
          let qp : q ≡ p = sym K.parent ∙ ap (λ (x : ℕ). parent_of t x) e ∙ (Q.kid z).parent in
          rw (e, qp, G.link z) (next_prev z)
      go (no n) = rw (G.nexts r r1 K.used n) (carry q (key_of t r + 1) (next_of t r) q1 F
          (λ e y. ⊎_elim
          (λ (l : key_of t r < k). let w = under r (here e) l n in let x = rw e at F in let v = x.none y prev (Q.kid w.0) in absurd (omega arith))
          (λ l. omega arith) (lt_or_ge (key_of t r) k))
          (λ e h y. let w = under r (here e) (omega arith) n in let x = rw e at F in let v = x.least prev (Q.kid w.0) (omega arith) in
          let b = Q.below w.0 in omega arith))

  pub grown_linked : (u + 1) * record_width ≤ length t → Linked t' (u + 1)
  grown_linked wh = record {
    some = omega arith;
    whole = let e = G.len in omega arith;
    up = λ r r1 ru. ⊎_elim
        (λ (e : r ≡ u + 1). rw e (rw G.parent (p1, omega arith)))
        (λ (l : r < u + 1). rw (parent_same r (omega arith) (omega arith)) (L.up r r1 (omega arith)))
        (eq-or-lt_of_le ru);
    child = λ q q1 qu. ⊎_elim
        (λ (e : q ≡ u + 1). rw e (rw G.child (record {
          none = λ _ r K. let a = K.above in let b = K.used in absurd (omega arith);
          kid = λ n. absurd (n refl);
          from = λ n. absurd (n refl);
          least = λ r K. let a = K.above in let b = K.used in absurd (omega arith);
        })))
        (λ (l : q < u + 1). child_first q q1 (omega arith))
        (eq-or-lt_of_le qu);
    next = λ q r q1 K. ⊎_elim
        (λ (J : Kid t u q r). rw (kid_key q r q1 J) (next_old q r q1 J))
        (λ (w : (r ≡ u + 1) × (q ≡ p)). rw (w.0, w.1) next_new)
        (cases q r q1 K);
    distinct = λ q r s q1 K M e. two q r s q1 e (cases q r q1 K) (cases q s q1 M);
  }
    where
      two : (q r s : ℕ) → 1 ≤ q → key_of t' r ≡ key_of t' s → Kid t u q r ⊎ ((r ≡ u + 1) × (q ≡ p)) → Kid t u q s ⊎ ((s ≡ u + 1) × (q ≡ p)) → r ≡ s
      two q r s q1 e (inl J) (inl H) = L.distinct q r s q1 J H (sym (kid_key q r q1 J) ∙ e ∙ kid_key q s q1 H)
      two q r s q1 e (inl J) (inr w) =
          absurd (A.none r (rw w.1 at J) (sym (kid_key q r q1 J) ∙ e ∙ ap (λ (x : ℕ). key_of t' x) w.0 ∙ G.key))
      two q r s q1 e (inr w) (inl H) =
          absurd (A.none s (rw w.1 at H) (sym (kid_key q s q1 H) ∙ sym e ∙ ap (λ (x : ℕ). key_of t' x) w.0 ∙ G.key))
      two q r s q1 e (inr w) (inr v) = w.0 ∙ sym v.0

-- the four stores
module _ (t : List ℕ) (u p k prev c x y : ℕ) (p1 : 1 ≤ p) (pu : p ≤ u) (w : (u + 1) * record_width ≤ length t) (Z : Blank t (u + 1))
    (x1 : 1 ≤ x) (xu : x ≤ u) (y1 : y < record_width) (hd : prev ≡ 0 → (x ≡ p) × (y ≡ 2)) (lk : (prev ≡ 0 → ⊥) → (x ≡ prev) × (y ≡ 3)) where
  t₁ : List ℕ
  t₁ = put t (u + 1) 0 k

  t₂ : List ℕ
  t₂ = put t₁ (u + 1) 1 p

  t₃ : List ℕ
  t₃ = put t₂ (u + 1) 3 c

  pub t₄ : List ℕ
  t₄ = put t₃ x y (u + 1)

  old₃ : (r f : ℕ) → 1 ≤ r → r ≤ u → f < record_width → fld t₃ r f ≡ fld t r f
  unfolding t₃ t₂ t₁
  old₃ r f r1 ru fl =
      put_else t₂ (u + 1) 3 c r f (omega arith) (omega arith) r1 fl (λ e _. omega arith)
      ∙ put_else t₁ (u + 1) 1 p r f (omega arith) (omega arith) r1 fl (λ e _. omega arith)
      ∙ put_else t (u + 1) 0 k r f (omega arith) (omega arith) r1 fl (λ e _. omega arith)

  blank₃ : (f : ℕ) → f < record_width → (f ≡ 0 → ⊥) → (f ≡ 1 → ⊥) → (f ≡ 3 → ⊥) → fld t₃ (u + 1) f ≡ 0
  unfolding t₃ t₂ t₁
  blank₃ f fl n0 n1 n3 =
      put_else t₂ (u + 1) 3 c (u + 1) f (omega arith) (omega arith) (omega arith) fl (λ _ e. n3 e)
      ∙ put_else t₁ (u + 1) 1 p (u + 1) f (omega arith) (omega arith) (omega arith) fl (λ _ e. n1 e)
      ∙ put_else t (u + 1) 0 k (u + 1) f (omega arith) (omega arith) (omega arith) fl (λ _ e. n0 e)
      ∙ Z.zeros f fl

  len₃ : length t₃ ≡ length t
  unfolding t₃ t₂ t₁
  len₃ = length_put t₂ (u + 1) 3 c ∙ length_put t₁ (u + 1) 1 p ∙ length_put t (u + 1) 0 k

  key₃ : fld t₃ (u + 1) 0 ≡ k
  unfolding t₃ t₂ t₁
  key₃ =
      put_else t₂ (u + 1) 3 c (u + 1) 0 (omega arith) (omega arith) (omega arith) (omega arith) (λ _ e. omega arith)
      ∙ put_else t₁ (u + 1) 1 p (u + 1) 0 (omega arith) (omega arith) (omega arith) (omega arith) (λ _ e. omega arith)
      ∙ put_same t (u + 1) 0 k (omega arith) w (omega arith)

  parent₃ : fld t₃ (u + 1) 1 ≡ p
  unfolding t₃ t₂ t₁
  parent₃ =
      put_else t₂ (u + 1) 3 c (u + 1) 1 (omega arith) (omega arith) (omega arith) (omega arith) (λ _ e. omega arith)
      ∙ put_same t₁ (u + 1) 1 p (omega arith) (rw length_put w) (omega arith)

  next₃ : fld t₃ (u + 1) 3 ≡ c
  unfolding t₃ t₂ t₁
  next₃ = put_same t₂ (u + 1) 3 c (omega arith) (simp length_put w) (omega arith)

  new₄ : (f : ℕ) → f < record_width → fld t₄ (u + 1) f ≡ fld t₃ (u + 1) f
  unfolding t₄
  new₄ f fl = put_else t₃ x y (u + 1) (u + 1) f x1 y1 (omega arith) fl (λ e _. omega arith)

  else₄ : (r f : ℕ) → 1 ≤ r → r ≤ u → f < record_width → (r ≡ x → f ≡ y → ⊥) → fld t₄ r f ≡ fld t r f
  unfolding t₄
  else₄ r f r1 ru fl n = put_else t₃ x y (u + 1) r f x1 y1 r1 fl n ∙ old₃ r f r1 ru fl

  here₄ : fld t₄ x y ≡ u + 1
  unfolding t₄
  here₄ = put_same t₃ x y (u + 1) x1 (let e = len₃ in omega arith) y1

  which : Dec (prev ≡ 0) → ((prev ≡ 0) × (x ≡ p) × (y ≡ 2)) ⊎ ((prev ≡ 0 → ⊥) × (x ≡ prev) × (y ≡ 3))
  which (yes z) = inl (z, (hd z).0, (hd z).1)
  which (no n) = inr (n, (lk n).0, (lk n).1)

  cases₄ : ((prev ≡ 0) × (x ≡ p) × (y ≡ 2)) ⊎ ((prev ≡ 0 → ⊥) × (x ≡ prev) × (y ≡ 3))
  cases₄ = which (ℕ_discrete prev 0)

  len₄ : length t₄ ≡ length t
  unfolding t₄
  len₄ = length_put t₃ x y (u + 1) ∙ len₃

  beyond₄ : (r f : ℕ) → u + 1 < r → f < record_width → fld t₄ r f ≡ fld t r f
  unfolding t₄ t₃ t₂ t₁
  beyond₄ r f h fl =
      put_else t₃ x y (u + 1) r f x1 y1 (omega arith) fl (λ e _. omega arith)
      ∙ put_else t₂ (u + 1) 3 c r f (omega arith) (omega arith) (omega arith) fl (λ e _. omega arith)
      ∙ put_else t₁ (u + 1) 1 p r f (omega arith) (omega arith) (omega arith) fl (λ e _. omega arith)
      ∙ put_else t (u + 1) 0 k r f (omega arith) (omega arith) (omega arith) fl (λ e _. omega arith)

  pub grown : Grown t u p k prev c t₄
  grown = record {
    len = len₄;
    key = new₄ 0 (omega arith) ∙ key₃;
    parent = new₄ 1 (omega arith) ∙ parent₃;
    child = new₄ 2 (omega arith) ∙ blank₃ 2 (omega arith) (λ e. omega arith) (λ e. omega arith) (λ e. omega arith);
    next = new₄ 3 (omega arith) ∙ next₃;
    rest = λ f f3 fl. new₄ f fl ∙ blank₃ f fl (λ e. omega arith) (λ e. omega arith) (λ e. omega arith);
    same = λ r f r1 ru fl n2 n3. else₄ r f r1 ru fl (λ _ e. ⊎_elim
        (λ (a : (prev ≡ 0) × (x ≡ p) × (y ≡ 2)). n2 (e ∙ a.2))
        (λ (a : (prev ≡ 0 → ⊥) × (x ≡ prev) × (y ≡ 3)). n3 (e ∙ a.2)) cases₄);
    children = λ r r1 ru n. else₄ r 2 r1 ru (omega arith) (λ q e. ⊎_elim
        (λ (a : (prev ≡ 0) × (x ≡ p) × (y ≡ 2)). n (q ∙ a.1) a.0)
        (λ (a : (prev ≡ 0 → ⊥) × (x ≡ prev) × (y ≡ 3)). let b = a.2 in omega arith) cases₄);
    head = λ z. (λ i. fld t₄ (sym (hd z).0 i) (sym (hd z).1 i)) ∙ here₄;
    nexts = λ r r1 ru n. else₄ r 3 r1 ru (omega arith) (λ q e. ⊎_elim
        (λ (a : (prev ≡ 0) × (x ≡ p) × (y ≡ 2)). let b = a.2 in omega arith)
        (λ (a : (prev ≡ 0 → ⊥) × (x ≡ prev) × (y ≡ 3)). n (q ∙ a.1)) cases₄);
    beyond = beyond₄;
    link = λ z. (λ i. fld t₄ (sym (lk z).0 i) (sym (lk z).1 i)) ∙ here₄;
  }

  pub grown_by : (a b d e : List ℕ) → a ≡ put t (u + 1) 0 k → b ≡ put a (u + 1) 1 p → d ≡ put b (u + 1) 3 c → e ≡ put d x y (u + 1) → Grown t u p k prev c e
  unfolding t₄ t₃ t₂ t₁
  grown_by a b d e ea eb ed ee = let q : t₄ ≡ e = cc in rw q at grown

node_same : (t t' : List ℕ) (r : ℕ) → ((f : ℕ) → f < record_width → (f ≡ 2 → ⊥) → (f ≡ 3 → ⊥) → fld t' r f ≡ fld t r f) → node_at t' r ≡ node_at t r
node_same t t' r h = λ i. record {
  key = h 0 (omega arith) (λ e. omega arith) (λ e. omega arith) i;
  parent = h 1 (omega arith) (λ e. omega arith) (λ e. omega arith) i;
  seen = h 4 (omega arith) (λ e. omega arith) (λ e. omega arith) i;
  not_bool = h 5 (omega arith) (λ e. omega arith) (λ e. omega arith) i;
  blocked = h 6 (omega arith) (λ e. omega arith) (λ e. omega arith) i;
  kind = h 7 (omega arith) (λ e. omega arith) (λ e. omega arith) i;
  count = h 8 (omega arith) (λ e. omega arith) (λ e. omega arith) i;
  name = h 9 (omega arith) (λ e. omega arith) (λ e. omega arith) i;
  confidence = h 10 (omega arith) (λ e. omega arith) (λ e. omega arith) i;
}

pub nodes_same : (t t' : List ℕ) (n : ℕ) → ((r : ℕ) → 1 ≤ r → r ≤ n → node_at t' r ≡ node_at t r) → nodes t' n ≡ nodes t n
unfolding nodes
nodes_same t t' zero h = refl
nodes_same t t' (suc n) h = λ i. nodes_same t t' n (λ r r1 rn. h r r1 (omega arith)) i ++ h (suc n) (omega arith) (omega arith) i ∷ []

node_new : (t : List ℕ) (u p k prev c : ℕ) (t' : List ℕ) → Grown t u p k prev c t' → node_at t' (u + 1) ≡ bare p k
node_new t u p k prev c t' G = λ i. record {
  key = G.key i;
  parent = G.parent i;
  seen = G.rest 4 (omega arith) (omega arith) i;
  not_bool = G.rest 5 (omega arith) (omega arith) i;
  blocked = G.rest 6 (omega arith) (omega arith) i;
  kind = G.rest 7 (omega arith) (omega arith) i;
  count = G.rest 8 (omega arith) (omega arith) i;
  name = G.rest 9 (omega arith) (omega arith) i;
  confidence = G.rest 10 (omega arith) (omega arith) i;
}

nodes_add : (t : List ℕ) (n : ℕ) → nodes t (n + 1) ≡ nodes t n ++ node_at t (n + 1) ∷ []
unfolding nodes
nodes_add t n = ap (nodes t) (add-one n) ∙ ap (λ (m : ℕ). nodes t n ++ node_at t m ∷ []) (sym (add-one n))

-- the new record is the next one, and the state has one node more
pub inserted : (t : List ℕ) (u N p k prev c : ℕ) (t' : List ℕ) → Shaped t u N → 1 ≤ p → p ≤ u → u < N
    → Absent t u p k → Place t u p k prev c → Grown t u p k prev c t' → Represents t' (u + 1) N (nodes t u ++ bare p k ∷ [])
inserted t u N p k prev c t' S p1 pu uN A P G = let Q = gap t u p k prev c A P in record {
  shaped = record {
    size = G.len ∙ S.size;
    most = omega arith;
    linked = grown_linked t u p k prev c t' S.linked p1 pu A Q G (let l = S.size in omega arith);
    root_parent = G.same 1 1 (omega arith) (omega arith) (omega arith) (λ e. omega arith) (λ e. omega arith) ∙ S.root_parent;
    root_next = G.nexts 1 (omega arith) (omega arith) (λ e. let K = Q.kid (λ z. omega arith) in let a = K.above in omega arith) ∙ S.root_next;
    beyond = λ r h rN. record { zeros = λ f fl. G.beyond r f h fl ∙ (S.beyond r (omega arith) rN).zeros f fl };
  };
  state = nodes_add t' u
      ∙ (λ i. nodes_same t t' u (λ r r1 ru. node_same t t' r (λ f fl n2 n3. G.same r f r1 ru fl n2 n3)) i ++ node_new t u p k prev c t' G i ∷ []);
}
