-- The number that is made is the path's own, and a path that is seen stands under seen paths.
use Rattle.std.proofs.Common.{◌≡◌, ℕ, zero, suc, ◌+◌, ◌-◌, ◌<◌, ◌≤◌, Bool, true, false, cond, ◌&&◌, eqb, ◌⊎◌, List, [], ◌∷◌, ◌++◌, length, get_or, sym, refl, ap, ◌∙◌, inl, inr, ⊎_elim, eq-or-lt_of_le, add-one, arith, length-append, get_or-set_other, eqb-true}
use native.Mathlib.Decide.{ℕ_discrete}
use lib.ListN.{get_or-append}
use lib.Seq.{get_or_at}
use borrow.Author.Tests.{eqb-false}
use Rattle.limits.specs.Fields as field
use Rattle.facts.specs.Table.{parent_of}
use Rattle.facts.specs.State.{Node, bare, nodes, node_of, paths_from, paths}
use Rattle.facts.proofs.Encode.{length_nodes, nodes_get}
use Rattle.paths.specs.Shape.{Shaped}
use Rattle.paths.specs.Update.{with_field, update}
use Rattle.paths.specs.Find.{find_to, find_in}
use Rattle.paths.specs.Make.{Made, ensure, seen_up, make_seen, get_or_create}
use Rattle.paths.specs.Adds.{missing}
use Rattle.paths.specs.Order.{Ordered, UnderSeen}
use Rattle.paths.proofs.Kept.{length_paths, length_seen, seen_key, seen_parent, paths_add, paths_seen}
use Rattle.paths.proofs.Kept.{update_parent, update_seen, length_update, now_seen}

pub shaped_ordered : (t : List ℕ) (used N : ℕ) → Shaped t used N → Ordered (nodes t used)
shaped_ordered t used N S = record {
  some = let l = length_nodes t used in let h = S.linked.some in omega arith;
  root = parent_is 1 (omega arith) S.linked.some ∙ S.root_parent;
  lower = λ r r1 h. let l = length_nodes t used in rw (parent_is r (omega arith) (omega arith)) (S.linked.up r r1 (omega arith));
}
  where
    parent_is : (r : ℕ) → 1 ≤ r → r ≤ used → (node_of (nodes t used) r).parent ≡ parent_of t r
    parent_is r r1 h = ap (λ (n : Node). n.parent) (nodes_get t used r r1 h)

-- the paths so far stay
from_front : (ps : List (List ℕ)) (s : List Node) (i : ℕ) → i < length ps → get_or (paths_from ps s) i [] ≡ get_or ps i []
from_front ps [] i h = refl
from_front ps (n ∷ s) i h =
    let p = get_or ps (n.parent - 1) [] ++ n.key ∷ [] in
    let l : length (ps ++ p ∷ []) ≡ length ps + 1 = length-append ps (p ∷ []) in
    from_front (ps ++ p ∷ []) s i (omega arith) ∙ get_or-append ps (p ∷ []) [] i h

-- a node's path is its parent's with its key
from_path : (ps : List (List ℕ)) (s : List Node) (d : Node) (j : ℕ) → j < length s → (get_or s j d).parent - 1 < length ps + j
    → get_or (paths_from ps s) (length ps + j) [] ≡ get_or (paths_from ps s) ((get_or s j d).parent - 1) [] ++ (get_or s j d).key ∷ []
from_path ps [] d j h l = absurd (omega arith)
from_path ps (n ∷ s) d zero h l =
    let p = get_or ps (n.parent - 1) [] ++ n.key ∷ [] in
    let e : length (ps ++ p ∷ []) ≡ length ps + 1 = length-append ps (p ∷ []) in
    from_front (ps ++ p ∷ []) s (length ps + 0) (omega arith)
    ∙ get_or_at ps p [] [] (length ps + 0) (omega arith)
    ∙ ap (λ (x : List ℕ). x ++ n.key ∷ []) (sym (from_front (ps ++ p ∷ []) s (n.parent - 1) (omega arith) ∙ get_or-append ps (p ∷ []) [] (n.parent - 1) (omega arith)))
from_path ps (n ∷ s) d (suc j) h l =
    let p = get_or ps (n.parent - 1) [] ++ n.key ∷ [] in
    let e : length (ps ++ p ∷ []) ≡ length ps + 1 = length-append ps (p ∷ []) in
    let q : length ps + suc j ≡ length (ps ++ p ∷ []) + j = omega arith in
    ap (λ (i : ℕ). get_or (paths_from (ps ++ p ∷ []) s) i []) q ∙ from_path (ps ++ p ∷ []) s d j (omega arith) (omega arith)

node_at : (m : Node) (s : List Node) (j : ℕ) → get_or s j (bare 0 0) ≡ node_of (m ∷ s) (suc (suc j))
unfolding node_of
node_at m s j = refl

pub path_of_lem : (s : List Node) (r : ℕ) → Ordered s → 1 < r → r ≤ length s
    → get_or (paths s) (r - 1) [] ≡ get_or (paths s) ((node_of s r).parent - 1) [] ++ (node_of s r).key ∷ []
unfolding paths
path_of_lem [] r O r1 h = absurd (omega arith)
path_of_lem (m ∷ s) zero O r1 h = absurd (omega arith)
path_of_lem (m ∷ s) (suc zero) O r1 h = absurd (omega arith)
path_of_lem (m ∷ s) (suc (suc j)) O r1 h =
    let n = node_at m s j in
    let l = (O.lower (suc (suc j)) r1 h).1 in
    let q : (get_or s j (bare 0 0)).parent ≡ (node_of (m ∷ s) (suc (suc j))).parent = ap (λ (x : Node). x.parent) n in
    let e : suc (suc j) - 1 ≡ length {A = List ℕ} ([] ∷ []) + j = omega arith in
    ap (λ (i : ℕ). get_or (paths_from ([] ∷ []) s) i []) e ∙ from_path ([] ∷ []) s (bare 0 0) j (omega arith) (omega arith)
    ∙ (λ i. get_or (paths_from ([] ∷ []) s) ((n i).parent - 1) [] ++ (n i).key ∷ [])

-- r, up to n, is a node with the parent p and the key k
pub record Named (s : List Node) (p k n r : ℕ) : Type 0 where
  pub low : 1 ≤ r
  pub high : r ≤ n
  pub parent : (node_of s r).parent ≡ p
  pub key : (node_of s r).key ≡ k

pub find_named : (s : List Node) (p k n : ℕ) → (find_to s p k n ≡ 0 → ⊥) → Named s p k n (find_to s p k n)
unfolding find_to
find_named s p k zero z = absurd (z refl)
find_named s p k (suc n) z = go (eqb (node_of s (suc n)).parent p) refl (eqb (node_of s (suc n)).key k) refl (find_named s p k n) z
  where
    more : Named s p k n (find_to s p k n) → Named s p k (suc n) (find_to s p k n)
    more N = record { low = N.low; high = let h = N.high in omega arith; parent = N.parent; key = N.key }

    go : (b : Bool) → eqb (node_of s (suc n)).parent p ≡ b → (c : Bool) → eqb (node_of s (suc n)).key k ≡ c
        → ((find_to s p k n ≡ 0 → ⊥) → Named s p k n (find_to s p k n)) → (cond (b && c) (suc n) (find_to s p k n) ≡ 0 → ⊥)
        → Named s p k (suc n) (cond (b && c) (suc n) (find_to s p k n))
    go true eb true ec f y = record {
      low = omega arith;
      high = omega arith;
      parent = eqb-true (node_of s (suc n)).parent p eb;
      key = eqb-true (node_of s (suc n)).key k ec;
    }
    go true eb false ec f y = more (f y)
    go false eb c ec f y = more (f y)

-- what is found is such a node
pub found_named : (s : List Node) (p k : ℕ) → (find_in s p k ≡ 0 → ⊥) → Named s p k (length s) (find_in s p k)
unfolding find_in
found_named s p k z = find_named s p k (length s) z

-- the number that is made is that of the path of p with the key k
pub ensure_path : (s : List Node) (p k : ℕ) → Ordered s → 1 ≤ p → p ≤ length s
    → get_or (paths (ensure s p k).state) ((ensure s p k).number - 1) [] ≡ get_or (paths s) (p - 1) [] ++ k ∷ []
unfolding ensure find_in
ensure_path s p k O p1 ps = go (eqb (find_to s p k (length s)) 0) refl
  where
    go : (b : Bool) → eqb (find_to s p k (length s)) 0 ≡ b
        → (let m = cond {A = Made} b (record { state = s ++ bare p k ∷ []; number = length s + 1 }) (record { state = s; number = find_to s p k (length s) }) in
        get_or (paths m.state) (m.number - 1) [] ≡ get_or (paths s) (p - 1) [] ++ k ∷ [])
    go true e =
        ap (λ (l : List (List ℕ)). get_or l (length s + 1 - 1) []) (paths_add s (bare p k) O.some)
        ∙ get_or_at (paths s) (get_or (paths s) (p - 1) [] ++ k ∷ []) [] [] (length s + 1 - 1) (let l = length_paths s in omega arith)
    go false e =
        let N = find_named s p k (length s) (eqb-false (find_to s p k (length s)) 0 e) in
        let r = find_to s p k (length s) in
        path_of_lem s r O (⊎_elim
        (λ (q : 1 ≡ find_to s p k (length s)). let z = ap (λ (x : ℕ). (node_of s x).parent) q in let w = O.root in let y = N.parent in absurd (omega arith))
        (λ (l : 1 < find_to s p k (length s)). l)
        (eq-or-lt_of_le N.low)) N.high
        ∙ (λ i. get_or (paths s) (N.parent i - 1) [] ++ N.key i ∷ [])

pub create_path : (s : List Node) (p k : ℕ) → Ordered s → 1 ≤ p → p ≤ length s
    → get_or (paths (get_or_create s p k).state) ((get_or_create s p k).number - 1) [] ≡ get_or (paths s) (p - 1) [] ++ k ∷ []
unfolding get_or_create
create_path s p k O p1 ps =
    ap (λ (l : List (List ℕ)). get_or l ((ensure s p k).number - 1) []) (paths_seen (ensure s p k).state (ensure s p k).number)
    ∙ ensure_path s p k O p1 ps

-- "A seen record's parent is seen": but for those whose parent is c
record UnderBut (c : ℕ) (s : List Node) : Type 0 where
  parent : (r : ℕ) → 1 < r → r ≤ length s → (node_of s r).seen ≡ 1 → ((node_of s r).parent ≡ c) ⊎ ((node_of s (node_of s r).parent).seen ≡ 1)

pub update_other : (s : List Node) (r f v q : ℕ) → 1 ≤ r → 1 ≤ q → (q ≡ r → ⊥) → node_of (update s r f v) q ≡ node_of s q
unfolding update node_of
update_other s zero f v q r1 q1 n = refl
update_other s (suc r) f v zero r1 q1 n = refl
update_other s (suc r) f v (suc q) r1 q1 n = get_or-set_other s r q (with_field f v (node_of s (suc r))) (bare 0 0) (λ e. n (ap suc e))

pub ordered_update : (s : List Node) (r f v : ℕ) → Ordered s → Ordered (update s r f v)
ordered_update s r f v O = record {
  some = let l = length_update s r f v in let h = O.some in omega arith;
  root = update_parent s r f v 1 ∙ O.root;
  lower = λ q q1 h. rw (update_parent s r f v q) (O.lower q q1 (let l = length_update s r f v in omega arith));
}

under_end : (s : List Node) (c : ℕ) → Ordered s → c ≡ 0 → UnderBut c s → UnderSeen s
under_end s c O z U = record {
  parent = λ r r1 h y. ⊎_elim
      (λ (e : (node_of s r).parent ≡ c). let l = O.lower r r1 h in absurd (omega arith))
      (λ (x : (node_of s (node_of s r).parent).seen ≡ 1). x)
      (U.parent r r1 h y);
}

under_turn : (s : List Node) (c : ℕ) → 1 ≤ c → c ≤ length s → UnderBut c s → UnderBut (node_of s c).parent (update s c field.seen 1)
under_turn s c c1 cs U = record { parent = λ r r1 h y. go r r1 (let l = length_update s c field.seen 1 in omega arith) y (ℕ_discrete r c) }
  where
    go : (r : ℕ) → 1 < r → r ≤ length s → (node_of (update s c field.seen 1) r).seen ≡ 1 → Dec (r ≡ c)
        → ((node_of (update s c field.seen 1) r).parent ≡ (node_of s c).parent)
        ⊎ ((node_of (update s c field.seen 1) (node_of (update s c field.seen 1) r).parent).seen ≡ 1)
    go r r1 h y (yes e) = inl (update_parent s c field.seen 1 r ∙ ap (λ (x : ℕ). (node_of s x).parent) e)
    go r r1 h y (no n) = ⊎_elim
        (λ (e : (node_of s r).parent ≡ c). inr (rw (update_parent s c field.seen 1 r ∙ e) (now_seen s c c1 cs)))
        (λ (x : (node_of s (node_of s r).parent).seen ≡ 1). inr (rw (update_parent s c field.seen 1 r) (update_seen s c (node_of s r).parent x)))
        (U.parent r r1 h (sym (ap (λ (m : Node). m.seen) (update_other s c field.seen 1 r c1 (omega arith) n)) ∙ y))

up_under : (n : ℕ) (s : List Node) (c : ℕ) → Ordered s → c ≤ n → c ≤ length s → UnderBut c s → UnderSeen (seen_up n s c)
unfolding seen_up
up_under zero s c O cn cs U = under_end s c O (omega arith) U
up_under (suc n) s c O cn cs U =
    go (eqb c 0) refl (λ c1. up_under n (update s c field.seen 1) (node_of s c).parent (ordered_update s c field.seen 1 O)
    (let l = low c1 in omega arith) (let l = low c1 in let e = length_update s c field.seen 1 in omega arith) (under_turn s c c1 cs U))
  where
    low : 1 ≤ c → (node_of s c).parent < c
    low c1 = ⊎_elim
        (λ (e : 1 ≡ c). let z = ap (λ (x : ℕ). (node_of s x).parent) e in let w = O.root in omega arith)
        (λ (l : 1 < c). (O.lower c l cs).1)
        (eq-or-lt_of_le c1)

    go : (b : Bool) → eqb c 0 ≡ b → (1 ≤ c → UnderSeen (seen_up n (update s c field.seen 1) (node_of s c).parent))
        → UnderSeen (cond b s (seen_up n (update s c field.seen 1) (node_of s c).parent))
    go true e f = under_end s c O (eqb-true c 0 e) U
    go false e f = f (let z = eqb-false c 0 e in omega arith)

pub under_seen : (s : List Node) (r : ℕ) → Ordered s → r ≤ length s → UnderSeen s → UnderSeen (make_seen s r)
unfolding make_seen
under_seen s r O h U = up_under r s r O (omega arith) h (record { parent = λ q q1 qs y. inr (U.parent q q1 qs y) })

-- how many nodes are added, for question 8
pub length_ensure : (s : List Node) (p k : ℕ) → length (ensure s p k).state ≡ length s + missing s p k
unfolding ensure missing
length_ensure s p k = go (eqb (find_in s p k) 0)
  where
    go : (b : Bool) → length (cond {A = Made} b (record { state = s ++ bare p k ∷ []; number = length s + 1 }) (record { state = s; number = find_in s p k })).state ≡ length s + cond b 1 0
    go true = length-append s (bare p k ∷ [])
    go false = omega arith

pub length_create : (s : List Node) (p k : ℕ) → length (get_or_create s p k).state ≡ length s + missing s p k
unfolding get_or_create
length_create s p k = length_seen (ensure s p k).state (ensure s p k).number ∙ length_ensure s p k

-- the number that is made is a node's
pub ensure_range : (s : List Node) (p k : ℕ) → (1 ≤ (ensure s p k).number) × ((ensure s p k).number ≤ length (ensure s p k).state)
unfolding ensure find_in
ensure_range s p k = go (eqb (find_to s p k (length s)) 0) refl
  where
    go : (b : Bool) → eqb (find_to s p k (length s)) 0 ≡ b
        → (let m = cond {A = Made} b (record { state = s ++ bare p k ∷ []; number = length s + 1 }) (record { state = s; number = find_to s p k (length s) }) in
        (1 ≤ m.number) × (m.number ≤ length m.state))
    go true e = let l = length-append s (bare p k ∷ []) in (omega arith, omega arith)
    go false e = let N = find_named s p k (length s) (eqb-false (find_to s p k (length s)) 0 e) in (N.low, N.high)

-- the nodes that were there stay as they are
pub add_node : (s : List Node) (n : Node) (q : ℕ) → 1 ≤ q → q ≤ length s → node_of (s ++ n ∷ []) q ≡ node_of s q
unfolding node_of
add_node s n zero q1 h = refl
add_node s n (suc q) q1 h = get_or-append s (n ∷ []) (bare 0 0) q (omega arith)

pub last_node : (s : List Node) (n : Node) → node_of (s ++ n ∷ []) (length s + 1) ≡ n
unfolding node_of
last_node s n = ap (node_of (s ++ n ∷ [])) (add-one (length s)) ∙ get_or_at s n [] (bare 0 0) (length s) refl

-- the number that is made is that of a node with the parent p and the key k
pub ensure_named : (s : List Node) (p k : ℕ) → Named (ensure s p k).state p k (length (ensure s p k).state) (ensure s p k).number
unfolding ensure
ensure_named s p k = go (eqb (find_in s p k) 0) refl
  where
    go : (b : Bool) → eqb (find_in s p k) 0 ≡ b
        → (let m = cond {A = Made} b (record { state = s ++ bare p k ∷ []; number = length s + 1 }) (record { state = s; number = find_in s p k }) in
        Named m.state p k (length m.state) m.number)
    go true e = record {
      low = omega arith;
      high = let l = length-append s (bare p k ∷ []) in omega arith;
      parent = ap (λ (n : Node). n.parent) (last_node s (bare p k));
      key = ap (λ (n : Node). n.key) (last_node s (bare p k));
    }
    go false e = found_named s p k (eqb-false (find_in s p k) 0 e)

pub create_named : (s : List Node) (p k : ℕ) → Named (get_or_create s p k).state p k (length (get_or_create s p k).state) (get_or_create s p k).number
unfolding get_or_create
create_named s p k =
    let E = ensure s p k in
    let N = ensure_named s p k in
    record {
      low = N.low;
      high = let h = N.high in let l = length_seen E.state E.number in omega arith;
      parent = seen_parent E.state E.number E.number ∙ N.parent;
      key = seen_key E.state E.number E.number ∙ N.key;
    }

pub ensure_node : (s : List Node) (p k q : ℕ) → 1 ≤ q → q ≤ length s → node_of (ensure s p k).state q ≡ node_of s q
unfolding ensure
ensure_node s p k q q1 h = go (eqb (find_in s p k) 0)
  where
    go : (b : Bool) → node_of (cond {A = Made} b (record { state = s ++ bare p k ∷ []; number = length s + 1 }) (record { state = s; number = find_in s p k })).state q ≡ node_of s q
    go true = add_node s (bare p k) q q1 h
    go false = refl

add_ordered : (s : List Node) (p k : ℕ) → Ordered s → 1 ≤ p → p ≤ length s → Ordered (s ++ bare p k ∷ [])
add_ordered s p k O p1 ps = record {
  some = let l = length-append s (bare p k ∷ []) in omega arith;
  root = ap (λ (n : Node). n.parent) (add_node s (bare p k) 1 (omega arith) O.some) ∙ O.root;
  lower = λ r r1 h. let l = length-append s (bare p k ∷ []) in ⊎_elim
      (λ (e : r ≡ length s + 1). rw (ap (λ (x : ℕ). (node_of (s ++ bare p k ∷ []) x).parent) e ∙ ap (λ (n : Node). n.parent) (last_node s (bare p k))) (p1, omega arith))
      (λ (g : r < length s + 1). rw (ap (λ (n : Node). n.parent) (add_node s (bare p k) r (omega arith) (omega arith))) (O.lower r r1 (omega arith)))
      (eq-or-lt_of_le (let x : r ≤ length s + 1 = omega arith in x));
}

pub ordered_ensure : (s : List Node) (p k : ℕ) → Ordered s → 1 ≤ p → p ≤ length s → Ordered (ensure s p k).state
unfolding ensure
ordered_ensure s p k O p1 ps = go (eqb (find_in s p k) 0)
  where
    go : (b : Bool) → Ordered (cond {A = Made} b (record { state = s ++ bare p k ∷ []; number = length s + 1 }) (record { state = s; number = find_in s p k })).state
    go true = add_ordered s p k O p1 ps
    go false = O

-- a new node is unseen
add_under : (s : List Node) (p k : ℕ) → Ordered s → UnderSeen s → UnderSeen (s ++ bare p k ∷ [])
add_under s p k O U = record {
  parent = λ r r1 h y. let l = length-append s (bare p k ∷ []) in ⊎_elim
      (λ (e : r ≡ length s + 1).
      let z : 0 ≡ (node_of (s ++ bare p k ∷ []) r).seen = sym (ap (λ (x : ℕ). (node_of (s ++ bare p k ∷ []) x).seen) e ∙ ap (λ (n : Node). n.seen) (last_node s (bare p k))) in
      absurd (omega arith))
      (λ (g : r < length s + 1).
      let n = add_node s (bare p k) r (omega arith) (omega arith) in
      let w = O.lower r r1 (omega arith) in
      let x = U.parent r r1 (omega arith) (sym (ap (λ (m : Node). m.seen) n) ∙ y) in
      rw (ap (λ (m : Node). m.parent) n) (ap (λ (m : Node). m.seen) (add_node s (bare p k) (node_of s r).parent w.0 (omega arith)) ∙ x))
      (eq-or-lt_of_le (let x : r ≤ length s + 1 = omega arith in x));
}

pub under_ensure : (s : List Node) (p k : ℕ) → Ordered s → UnderSeen s → UnderSeen (ensure s p k).state
unfolding ensure
under_ensure s p k O U = go (eqb (find_in s p k) 0)
  where
    go : (b : Bool) → UnderSeen (cond {A = Made} b (record { state = s ++ bare p k ∷ []; number = length s + 1 }) (record { state = s; number = find_in s p k })).state
    go true = add_under s p k O U
    go false = U
