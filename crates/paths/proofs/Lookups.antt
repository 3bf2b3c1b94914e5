-- Looking a path up before and after a change: a made path is found under its number, and every other one as before.
use Rattle.std.proofs.Common.{◌≡◌, ℕ, zero, suc, ◌+◌, ◌<◌, ◌≤◌, Bool, true, false, cond, ◌&&◌, eqb, ◌⊎◌, List, [], ◌∷◌, ◌++◌, length, sym, refl, ap, ◌∙◌, inl, inr, ⊎_elim, eq-or-lt_of_le, add-one, arith, length-append, eq-eqb, ne_eqb, eqb-true}
use native.Mathlib.Decide.{ℕ_discrete}
use borrow.Author.Tests.{eqb-false}
use Rattle.facts.specs.State.{Node, bare, node_of}
use Rattle.paths.specs.Update.{update}
use Rattle.paths.specs.Find.{find_to, find_in, get_mut}
use Rattle.paths.specs.Make.{Made, ensure, make_seen, get_or_create}
use Rattle.paths.specs.Order.{Ordered}
use Rattle.paths.proofs.Reach.{Named, find_named, add_node, last_node}
use Rattle.paths.proofs.Alike.{alike_update, alike_seen, alike_create, alike_find, find_same}

pub find_update : (s : List Node) (r f v p k : ℕ) → find_in (update s r f v) p k ≡ find_in s p k
find_update s r f v p k = alike_find s (update s r f v) (alike_update s r f v) p k

pub find_seen : (s : List Node) (r p k : ℕ) → find_in (make_seen s r) p k ≡ find_in s p k
find_seen s r p k = alike_find s (make_seen s r) (alike_seen s r) p k

-- a node that is found: it is the path's
pub found_node : (s : List Node) (p k : ℕ) → (find_in s p k ≡ 0 → ⊥) → Named s p k (length s) (find_in s p k)
unfolding find_in
found_node s p k n = find_named s p k (length s) n

-- it is never the root, which has no parent
pub found_above : (s : List Node) (p k : ℕ) → Ordered s → 1 ≤ p → (find_in s p k ≡ 0 → ⊥) → 1 < find_in s p k
found_above s p k O p1 n =
    let N = found_node s p k n in
    ⊎_elim
    (λ (q : 1 ≡ find_in s p k). let z = ap (λ (x : ℕ). (node_of s x).parent) q in let w = O.root in let y = N.parent in absurd (omega arith))
    (λ (l : 1 < find_in s p k). l)
    (eq-or-lt_of_le N.low)

-- what `get_mut` finds is the path's node, and seen
pub record Got (s : List Node) (p k : ℕ) : Type 0 where
  pub there : find_in s p k ≡ 0 → ⊥
  pub same : get_mut s p k ≡ find_in s p k
  pub seen : (node_of s (get_mut s p k)).seen ≡ 1

pub got_node : (s : List Node) (p k : ℕ) → (get_mut s p k ≡ 0 → ⊥) → Got s p k
unfolding get_mut
got_node s p k = go (eqb (node_of s (find_in s p k)).seen 1) refl
  where
    go : (b : Bool) → eqb (node_of s (find_in s p k)).seen 1 ≡ b → (cond b (find_in s p k) 0 ≡ 0 → ⊥) → Got s p k
    go true e n = record {
      there = n;
      same = rw e refl;
      seen = rw e (eqb-true (node_of s (find_in s p k)).seen 1 e);
    }
    go false e n = absurd (n refl)

-- where none is found there is none
none_to : (s : List Node) (p k n : ℕ) → find_to s p k n ≡ 0 → (r : ℕ) → 1 ≤ r → r ≤ n → (node_of s r).parent ≡ p → (node_of s r).key ≡ k → ⊥
unfolding find_to
none_to s p k zero z r r1 h ep ek = absurd (omega arith)
none_to s p k (suc n) z r r1 h ep ek =
    go (eqb (node_of s (suc n)).parent p) refl (eqb (node_of s (suc n)).key k) refl (none_to s p k n) z (eq-or-lt_of_le h)
  where
    go : (b : Bool) → eqb (node_of s (suc n)).parent p ≡ b → (c : Bool) → eqb (node_of s (suc n)).key k ≡ c
        → (find_to s p k n ≡ 0 → (r : ℕ) → 1 ≤ r → r ≤ n → (node_of s r).parent ≡ p → (node_of s r).key ≡ k → ⊥)
        → cond (b && c) (suc n) (find_to s p k n) ≡ 0 → (r ≡ suc n) ⊎ (r < suc n) → ⊥
    go true eb true ec f y d = absurd (omega arith)
    go true eb false ec f y (inl e) = eqb-false (node_of s (suc n)).key k ec (ap (λ (x : ℕ). (node_of s x).key) (sym e) ∙ ek)
    go true eb false ec f y (inr l) = f y r r1 (omega arith) ep ek
    go false eb c ec f y (inl e) = eqb-false (node_of s (suc n)).parent p eb (ap (λ (x : ℕ). (node_of s x).parent) (sym e) ∙ ep)
    go false eb c ec f y (inr l) = f y r r1 (omega arith) ep ek

pub none_found : (s : List Node) (p k : ℕ) → find_in s p k ≡ 0 → (r : ℕ) → 1 ≤ r → r ≤ length s → (node_of s r).parent ≡ p
    → (node_of s r).key ≡ k → ⊥
unfolding find_in
none_found s p k z = none_to s p k (length s) z

-- one turn of a search in a state with a node added
find_turn : (s : List Node) (p k p' k' : ℕ)
    → find_in (s ++ bare p k ∷ []) p' k' ≡ cond (eqb p p' && eqb k k') (suc (length s)) (find_to (s ++ bare p k ∷ []) p' k' (length s))
unfolding find_in find_to
find_turn s p k p' k' =
    ap (find_to (s ++ bare p k ∷ []) p' k') (length-append s (bare p k ∷ []) ∙ add-one (length s))
    ∙ (λ i. cond (eqb (new i).parent p' && eqb (new i).key k') (suc (length s)) (find_to (s ++ bare p k ∷ []) p' k' (length s)))
  where
    new : node_of (s ++ bare p k ∷ []) (suc (length s)) ≡ bare p k
    new = ap (node_of (s ++ bare p k ∷ [])) (sym (add-one (length s))) ∙ last_node s (bare p k)

-- a new path is found by its own parent and key alone
find_added : (s : List Node) (p k p' k' : ℕ) → (p ≡ p' → k ≡ k' → ⊥) → find_in (s ++ bare p k ∷ []) p' k' ≡ find_in s p' k'
unfolding find_in
find_added s p k p' k' n =
    find_turn s p k p' k' ∙ skip (eqb p p') refl (eqb k k') refl
    ∙ find_same s (s ++ bare p k ∷ []) p' k' (length s) (λ q q1 h. ap (λ (x : Node). x.key) (add_node s (bare p k) q q1 h))
    (λ q q1 h. ap (λ (x : Node). x.parent) (add_node s (bare p k) q q1 h))
  where
    skip : (b : Bool) → eqb p p' ≡ b → (c : Bool) → eqb k k' ≡ c
        → cond (b && c) (suc (length s)) (find_to (s ++ bare p k ∷ []) p' k' (length s)) ≡ find_to (s ++ bare p k ∷ []) p' k' (length s)
    skip true eb true ec = absurd (n (eqb-true p p' eb) (eqb-true k k' ec))
    skip true eb false ec = refl
    skip false eb c ec = refl

-- another path is found as before
pub find_ensure : (s : List Node) (p k p' k' : ℕ) → (p ≡ p' → k ≡ k' → ⊥) → find_in (ensure s p k).state p' k' ≡ find_in s p' k'
unfolding ensure
find_ensure s p k p' k' n = go (eqb (find_in s p k) 0)
  where
    go : (b : Bool)
        → find_in (cond {A = Made} b (record { state = s ++ bare p k ∷ []; number = length s + 1 }) (record { state = s; number = find_in s p k })).state p' k' ≡ find_in s p' k'
    go true = find_added s p k p' k' n
    go false = refl

pub find_create : (s : List Node) (p k p' k' : ℕ) → (p ≡ p' → k ≡ k' → ⊥) → find_in (get_or_create s p k).state p' k' ≡ find_in s p' k'
find_create s p k p' k' n =
    alike_find (ensure s p k).state (get_or_create s p k).state (alike_create s p k) p' k' ∙ find_ensure s p k p' k' n

-- the made one is found under its number
pub find_ensured : (s : List Node) (p k : ℕ) → find_in (ensure s p k).state p k ≡ (ensure s p k).number
unfolding ensure
find_ensured s p k = go (eqb (find_in s p k) 0)
  where
    go : (b : Bool)
        → (let m = cond {A = Made} b (record { state = s ++ bare p k ∷ []; number = length s + 1 }) (record { state = s; number = find_in s p k }) in
        find_in m.state p k ≡ m.number)
    go true =
        find_turn s p k p k
        ∙ (λ i. cond (eq-eqb p p refl i && eq-eqb k k refl i) (suc (length s)) (find_to (s ++ bare p k ∷ []) p k (length s))) ∙ sym (add-one (length s))
    go false = refl

pub find_created : (s : List Node) (p k : ℕ) → find_in (get_or_create s p k).state p k ≡ (get_or_create s p k).number
unfolding get_or_create
find_created s p k = find_seen (ensure s p k).state (ensure s p k).number p k ∙ find_ensured s p k

-- a path that is there: nothing is made
pub ensure_there : (s : List Node) (p k : ℕ) → (find_in s p k ≡ 0 → ⊥) → ensure s p k ≡ record { state = s; number = find_in s p k }
unfolding ensure
ensure_there s p k n = rw (ne_eqb (find_in s p k) 0 n) refl

-- a path that is not there: a bare node is added
pub ensure_new : (s : List Node) (p k : ℕ) → find_in s p k ≡ 0 → ensure s p k ≡ record { state = s ++ bare p k ∷ []; number = length s + 1 }
unfolding ensure
ensure_new s p k z = rw (eq-eqb (find_in s p k) 0 z) refl

pub got_none : (s : List Node) (p k : ℕ) → find_in s p k ≡ 0 → get_mut s p k ≡ 0
unfolding get_mut
got_none s p k z = go (eqb (node_of s (find_in s p k)).seen 1)
  where
    go : (b : Bool) → cond b (find_in s p k) 0 ≡ 0
    go true = z
    go false = refl

-- the number that is made is never the root's
pub ensure_above : (s : List Node) (p k : ℕ) → Ordered s → 1 ≤ p → 1 < (ensure s p k).number
unfolding ensure
ensure_above s p k O p1 = go (eqb (find_in s p k) 0) refl
  where
    go : (b : Bool) → eqb (find_in s p k) 0 ≡ b
        → 1 < (cond {A = Made} b (record { state = s ++ bare p k ∷ []; number = length s + 1 }) (record { state = s; number = find_in s p k })).number
    go true e = let h = O.some in omega arith
    go false e = found_above s p k O p1 (eqb-false (find_in s p k) 0 e)

-- a path that has just been made continues into none: parents come first
pub none_under_last : (s : List Node) (p k : ℕ) → Ordered s → length s ≤ p → find_in s p k ≡ 0
none_under_last s p k O h = go (ℕ_discrete (find_in s p k) 0)
  where
    go : Dec (find_in s p k ≡ 0) → find_in s p k ≡ 0
    go (yes z) = z
    go (no n) =
        let N = found_node s p k n in
        let a = found_above s p k O (let w = O.some in omega arith) n in
        let l = (O.lower (find_in s p k) a N.high).1 in
        let e = N.parent in let g = N.high in
        absurd (omega arith)
