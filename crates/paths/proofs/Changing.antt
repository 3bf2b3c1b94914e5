-- What the operations of this crate leave alone: a field stored, a path made, a path made seen.
use Rattle.std.proofs.Common.{◌≡◌, ℕ, zero, suc, ◌+◌, ◌-◌, ◌<◌, ◌≤◌, Bool, true, false, cond, eqb, ◌⊎◌, ◌↔◌, List, [], ◌∷◌, ◌++◌, length, get_or, sym, refl, ap, ◌∙◌, subst, inl, inr, ⊎_elim, eq-or-lt_of_le, arith, length-append, get_or-take}
use native.Mathlib.Decide.{ℕ_discrete, dec_le}
use borrow.Author.Tests.{eqb-false}
use Rattle.limits.specs.Fields as field
use Rattle.facts.specs.Formed.{Formed}
use Rattle.facts.specs.State.{Node, bare, node_of, paths}
use Rattle.paths.specs.Update.{with_field, update}
use Rattle.paths.specs.Find.{find_in}
use Rattle.paths.specs.Make.{Made, ensure, seen_up, make_seen, get_or_create}
use Rattle.paths.specs.Order.{Ordered}
use Rattle.paths.specs.Path.{path_of, FactAt, AgreeUnder}
use Rattle.paths.specs.Looking.{number_at}
use Rattle.paths.specs.Changes.{Starts, Begins, Toward, Changes, ChangesOnly, ChangesBelow}
use Rattle.paths.proofs.Kept.{length_update, paths_update, length_seen, paths_seen, paths_ensure, seen_else}
use Rattle.paths.proofs.Kept.{seen_stays}
use Rattle.paths.proofs.Reach.{path_of_lem, update_other, ordered_update, length_ensure, ensure_path, ensure_range}
use Rattle.paths.proofs.Reach.{ensure_node, ordered_ensure, create_path, create_named}
use Rattle.paths.proofs.Lookups.{ensure_there, ensure_new}
use Rattle.paths.proofs.Sounds.{formed_ordered}
use Rattle.paths.proofs.PathLaws.{Stands, root_stands, path_some, number_stands, stands_number}
use Rattle.paths.proofs.Agreeing.{stands_fact, fact_stands, fact_says, says_same}
use Rattle.paths.proofs.Keys.{starts_self, starts_more, toward_self, toward_begins}

module _ (At New : List ℕ → Type 0) where
  pub changes_none : (s : List Node) → Changes At New s s
  changes_none s = record { grown = omega arith; path = λ q q1 h. refl; new = λ q l h. absurd (omega arith); same = λ q q1 h n. refl }

  pub changes_then : (s t u : List Node) → Changes At New s t → Changes At New t u → Changes At New s u
  changes_then s t u A B = let a = A.grown in let b = B.grown in record {
    grown = omega arith;
    path = λ q q1 h. B.path q q1 (omega arith) ∙ A.path q q1 h;
    new = λ q l h. new q l h (dec_le q (length t));
    same = λ q q1 h n. B.same q q1 (omega arith) (λ x. n (rw (A.path q q1 h) at x)) ∙ A.same q q1 h n;
  }
    where
      new : (q : ℕ) → length s < q → q ≤ length u → Dec (q ≤ length t) → New (path_of u q)
      new q l h (yes g) = rw (B.path q (omega arith) g) (A.new q l g)
      new q l h (no g) = B.new q (omega arith) h

  pub changes_cond : (s : List Node) (b : Bool) (x y : List Node) → Changes At New s x → Changes At New s y → Changes At New s (cond b x y)
  changes_cond s true x y A B = A
  changes_cond s false x y A B = B

  -- what changes at some paths alone changes at more alone
  pub changes_more : (At' New' : List ℕ → Type 0) → ((p : List ℕ) → At p → At' p) → ((p : List ℕ) → New p → New' p)
      → (s s' : List Node) → Changes At New s s' → Changes At' New' s s'
  changes_more At' New' f g s s' C = record {
    grown = C.grown;
    path = C.path;
    new = λ q l h. g (path_of s' q) (C.new q l h);
    same = λ q q1 h n. C.same q q1 h (λ x. n (f (path_of s q) x));
  }

  -- numbers, nodes and facts by their paths, before and after
  module _ (s s' : List Node) (C : Changes At New s s') (p : List ℕ) where
    pub stands_after : (r : ℕ) → Stands s p r → Stands s' p r
    stands_after r T = record {
      from = T.from;
      within = let a = C.grown in let b = T.within in omega arith;
      path = C.path r T.from T.within ∙ T.path;
    }

    pub stands_before : (New p → ⊥) → (r : ℕ) → Stands s' p r → Stands s p r
    stands_before n r T = go (dec_le r (length s))
      where
        go : Dec (r ≤ length s) → Stands s p r
        go (yes h) = record { from = T.from; within = h; path = sym (C.path r T.from h) ∙ T.path }
        go (no g) = absurd (n (rw T.path at (C.new r (omega arith) T.within)))

    pub node_same : (At p → ⊥) → (r : ℕ) → Stands s p r → node_of s' r ≡ node_of s r
    node_same n r T = C.same r T.from T.within (λ x. n (rw T.path at x))

    -- a path that is not new has the number that it had
    pub number_same : Formed s → Formed s' → (New p → ⊥) → number_at s' p ≡ number_at s p
    number_same F F' n = go (ℕ_discrete (number_at s p) 0) (ℕ_discrete (number_at s' p) 0)
      where
        go : Dec (number_at s p ≡ 0) → Dec (number_at s' p ≡ 0) → number_at s' p ≡ number_at s p
        go (yes z) (yes z') = z' ∙ sym z
        go (no m) d = stands_number s' F' p (number_at s p) (stands_after (number_at s p) (number_stands s (formed_ordered s F) p m))
        go (yes z) (no m) =
            sym (stands_number s F p (number_at s' p) (stands_before n (number_at s' p) (number_stands s' (formed_ordered s' F') p m)))

    -- a path that is named nowhere has the fact that it had
    pub fact_same : (At p → ⊥) → (New p → ⊥) → (kind count name : ℕ) → FactAt s p kind count name ↔ FactAt s' p kind count name
    fact_same a n kind count name = (after, before)
      where
        after : FactAt s p kind count name → FactAt s' p kind count name
        after f =
            let r = f.number in let T = fact_stands s p kind count name f in
            stands_fact s' p r kind count name (stands_after r T) (says_same s s' r kind count name (node_same a r T) (fact_says s p kind count name f))

        before : FactAt s' p kind count name → FactAt s p kind count name
        before f =
            let r = f.number in let T = stands_before n r (fact_stands s' p kind count name f) in
            stands_fact s p r kind count name T (says_same s' s r kind count name (sym (node_same a r T)) (fact_says s' p kind count name f))

-- nothing at or below another child of the root changes
pub agree_else : (a b : ℕ) (s s' : List Node) → ChangesBelow a s s' → (a ≡ b → ⊥) → AgreeUnder (b ∷ []) s s'
agree_else a b s s' C n rest = fact_same (Begins a) (Begins a) s s' C (b ∷ rest) (λ h. n h.0) (λ h. n h.0)

-- nor does the root
pub root_stays : (a : ℕ) (s s' : List Node) → ChangesBelow a s s' → 1 ≤ length s → node_of s' 1 ≡ node_of s 1
root_stays a s s' C h = node_same (Begins a) (Begins a) s s' C [] (λ x. x) 1 (root_stands s h)

-- what a change at one path alone is below the root's child with its first key
pub only_below : (a : ℕ) (path : List ℕ) (s s' : List Node) → Begins a path → ChangesOnly path s s' → ChangesBelow a s s'
only_below a path s s' B C =
    changes_more (Toward path) (λ p. p ≡ path) (Begins a) (Begins a) (λ p T. toward_begins a path p B T) (λ p e. rw e B) s s' C

module _ (s : List Node) (O : Ordered s) where
  -- one field of a node stored
  pub only_update : (r f v : ℕ) → 1 < r → r ≤ length s → ChangesOnly (path_of s r) s (update s r f v)
  only_update r f v r1 rs = let l = length_update s r f v in record {
    grown = omega arith;
    path = λ q q1 h. ap (λ (ps : List (List ℕ)). get_or ps (q - 1) []) (paths_update s r f v);
    new = λ q g h. absurd (omega arith);
    same = λ q q1 h n. update_other s r f v q (omega arith) q1
        (λ e. n (rw (ap (path_of s) e) (toward_self (path_of s r) (path_some s O r r1 rs))));
  }

  -- a path made
  pub only_ensure : (p k : ℕ) → 1 ≤ p → p ≤ length s → ChangesOnly (path_of s p ++ k ∷ []) s (ensure s p k).state
  only_ensure p k p1 ps = let l = length_ensure s p k in record {
    grown = omega arith;
    path = λ q q1 h. sym (get_or-take (length s) (paths E) (q - 1) [] (omega arith)) ∙ ap (λ (x : List (List ℕ)). get_or x (q - 1) []) (paths_ensure s p k);
    new = λ q g h. new q g h (ℕ_discrete (find_in s p k) 0);
    same = λ q q1 h n. ensure_node s p k q q1 h;
  }
    where
      E : List Node
      E = (ensure s p k).state

      new : (q : ℕ) → length s < q → q ≤ length E → Dec (find_in s p k ≡ 0) → path_of E q ≡ path_of s p ++ k ∷ []
      new q g h (yes z) =
          let m = ensure_new s p k z in
          let a : (ensure s p k).number ≡ length s + 1 = ap (λ (x : Made). x.number) m in
          let b : length E ≡ length s + 1 = ap (λ (x : Made). length x.state) m ∙ length-append s (bare p k ∷ []) in
          let e : q ≡ (ensure s p k).number = omega arith in
          ap (path_of E) e ∙ ensure_path s p k O p1 ps
      new q g h (no n) =
          let b : length E ≡ length s = ap (λ (x : Made). length x.state) (ensure_there s p k n) in
          absurd (omega arith)

-- a turn of `seen_up` leaves what is not on the way as it is, and so do all of its turns
up_else : (n : ℕ) (s : List Node) (r q : ℕ) → Ordered s → r ≤ length s → 1 ≤ q → (Starts (path_of s q) (path_of s r) → ⊥) → node_of (seen_up n s r) q ≡ node_of s q
unfolding seen_up
up_else zero s r q O rs q1 x = refl
up_else (suc n) s r q O rs q1 x = go (eqb r 0) refl (up_else n (update s r field.seen 1) (node_of s r).parent q (ordered_update s r field.seen 1 O))
  where
    U : List Node
    U = update s r field.seen 1

    -- the parent's way is a part of the way
    up : 1 ≤ r → Starts (path_of s q) (path_of s (node_of s r).parent) → Starts (path_of s q) (path_of s r)
    up r1 h = ⊎_elim
        (λ (e : 1 ≡ r). rw (ap (λ (y : ℕ). path_of s (node_of s y).parent) (sym e) ∙ ap (path_of s) O.root ∙ ap (path_of s) e) at h)
        (λ (l : 1 < r). rw (path_of_lem s r O l rs) (starts_more (path_of s q) (path_of s (node_of s r).parent) ((node_of s r).key ∷ []) h))
        (eq-or-lt_of_le r1)

    low : 1 ≤ r → (node_of s r).parent ≤ length U
    low r1 = let l = length_update s r field.seen 1 in ⊎_elim
        (λ (e : 1 ≡ r). let z = ap (λ (y : ℕ). (node_of s y).parent) e in let w = O.root in omega arith)
        (λ (g : 1 < r). let w = (O.lower r g rs).1 in omega arith)
        (eq-or-lt_of_le r1)

    go : (b : Bool) → eqb r 0 ≡ b
        → ((node_of s r).parent ≤ length U → 1 ≤ q → (Starts (path_of U q) (path_of U (node_of s r).parent) → ⊥) → node_of (seen_up n U (node_of s r).parent) q ≡ node_of U q)
        → node_of (cond b s (seen_up n U (node_of s r).parent)) q ≡ node_of s q
    go true e f = refl
    go false e f =
        let r1 : 1 ≤ r = let z = eqb-false r 0 e in omega arith in
        f (low r1) q1
        (λ h. x (up r1 (subst (λ (ps : List (List ℕ)). Starts (get_or ps (q - 1) []) (get_or ps ((node_of s r).parent - 1) [])) (paths_update s r field.seen 1) h)))
        ∙ update_other s r field.seen 1 q r1 q1 (λ c. x (rw (ap (path_of s) c) (starts_self (path_of s r))))

seen_off : (s : List Node) (r q : ℕ) → Ordered s → r ≤ length s → 1 ≤ q → (Starts (path_of s q) (path_of s r) → ⊥) → node_of (make_seen s r) q ≡ node_of s q
unfolding make_seen
seen_off s r q O rs q1 x = up_else r s r q O rs q1 x

-- the root stays as it is where it is seen
seen_again : (n : Node) → with_field field.seen n.seen n ≡ n
unfolding with_field
seen_again n = refl

pub root_same : (s : List Node) (r : ℕ) → (node_of s 1).seen ≡ 1 → node_of (make_seen s r) 1 ≡ node_of s 1
root_same s r y =
    seen_else s r 1 ∙ ap (λ (x : ℕ). with_field field.seen x (node_of s 1)) (seen_stays s r 1 y ∙ sym y) ∙ seen_again (node_of s 1)

pub root_seen : (s : List Node) → Formed s → (node_of s 1).seen ≡ 1
root_seen s F = ap (λ (n : Node). n.seen) F.first

-- a path made seen, and those that it continues
pub only_seen : (s : List Node) → Ordered s → (node_of s 1).seen ≡ 1 → (r : ℕ) → r ≤ length s → ChangesOnly (path_of s r) s (make_seen s r)
only_seen s O y r rs = let l = length_seen s r in record {
  grown = omega arith;
  path = λ q q1 h. ap (λ (ps : List (List ℕ)). get_or ps (q - 1) []) (paths_seen s r);
  new = λ q g h. absurd (omega arith);
  same = λ q q1 h n. same q h n (eq-or-lt_of_le q1);
}
  where
    same : (q : ℕ) → q ≤ length s → (Toward (path_of s r) (path_of s q) → ⊥) → (1 ≡ q) ⊎ (1 < q) → node_of (make_seen s r) q ≡ node_of s q
    same q h n (inl e) = rw (sym e) (root_same s r y)
    same q h n (inr l) = seen_off s r q O rs (omega arith) (λ x. n (record { starts = x; not_root = path_some s O q l h }))

-- `get_or_create`
pub only_create : (s : List Node) → Ordered s → (node_of s 1).seen ≡ 1 → (p k : ℕ) → 1 ≤ p → p ≤ length s
    → ChangesOnly (path_of s p ++ k ∷ []) s (get_or_create s p k).state
unfolding get_or_create
only_create s O y p k p1 ps =
    let E = ensure s p k in
    let root = ap (λ (n : Node). n.seen) (ensure_node s p k 1 (omega arith) O.some) ∙ y in
    changes_then (Toward (path_of s p ++ k ∷ [])) (λ q. q ≡ path_of s p ++ k ∷ []) s E.state (make_seen E.state E.number) (only_ensure s O p k p1 ps)
    (subst (λ (x : List ℕ). ChangesOnly x E.state (make_seen E.state E.number)) (ensure_path s p k O p1 ps)
    (only_seen E.state (ordered_ensure s p k O p1 ps) root E.number (ensure_range s p k).1))

-- what is made stands at its path
module _ (s : List Node) (O : Ordered s) (p k : ℕ) (p1 : 1 ≤ p) (ps : p ≤ length s) where
  pub ensure_stands : Stands (ensure s p k).state (path_of s p ++ k ∷ []) (ensure s p k).number
  ensure_stands = let h = ensure_range s p k in record { from = h.0; within = h.1; path = ensure_path s p k O p1 ps }

  pub create_stands : Stands (get_or_create s p k).state (path_of s p ++ k ∷ []) (get_or_create s p k).number
  create_stands = let N = create_named s p k in record { from = N.low; within = N.high; path = create_path s p k O p1 ps }

-- the same below a child of the root: `begins_root` and `begins_more` say with which key a made path begins
module _ (a : ℕ) (s : List Node) (O : Ordered s) where
  pub below_update : (r f v : ℕ) → 1 < r → r ≤ length s → Begins a (path_of s r) → ChangesBelow a s (update s r f v)
  below_update r f v r1 rs B = only_below a (path_of s r) s (update s r f v) B (only_update s O r f v r1 rs)

  pub below_ensure : (p k : ℕ) → 1 ≤ p → p ≤ length s → Begins a (path_of s p ++ k ∷ []) → ChangesBelow a s (ensure s p k).state
  below_ensure p k p1 ps B = only_below a (path_of s p ++ k ∷ []) s (ensure s p k).state B (only_ensure s O p k p1 ps)

  module _ (y : (node_of s 1).seen ≡ 1) where
    pub below_seen : (r : ℕ) → r ≤ length s → Begins a (path_of s r) → ChangesBelow a s (make_seen s r)
    below_seen r rs B = only_below a (path_of s r) s (make_seen s r) B (only_seen s O y r rs)

    pub below_create : (p k : ℕ) → 1 ≤ p → p ≤ length s → Begins a (path_of s p ++ k ∷ []) → ChangesBelow a s (get_or_create s p k).state
    below_create p k p1 ps B = only_below a (path_of s p ++ k ∷ []) s (get_or_create s p k).state B (only_create s O y p k p1 ps)
