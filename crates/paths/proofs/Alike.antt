-- States with the same paths: a change that keeps each node's key and parent keeps numbers, paths and lookups.
use Rattle.std.proofs.Common.{◌≡◌, ℕ, zero, suc, ◌+◌, ◌-◌, ◌≤◌, Bool, true, false, cond, ◌&&◌, eqb, List, [], ◌∷◌, ◌++◌, map, length, get_or, sym, refl, ap, ◌∙◌, arith, length-append}
use lib.ListN.{length-map, get_or-map}
use Rattle.facts.specs.State.{Node, bare, node_of, paths_from, paths}
use Rattle.paths.specs.Update.{update}
use Rattle.paths.specs.Find.{find_to, find_in}
use Rattle.paths.specs.Make.{Made, ensure, make_seen, get_or_create}
use Rattle.paths.proofs.Frame.{at}
use Rattle.paths.proofs.Kept.{update_key, update_parent, length_update, seen_key, seen_parent, length_seen}

pub record Alike (s s' : List Node) : Type 0 where
  pub size : length s' ≡ length s
  pub key : (q : ℕ) → (node_of s' q).key ≡ (node_of s q).key
  pub parent : (q : ℕ) → (node_of s' q).parent ≡ (node_of s q).parent

pub alike_refl : (s : List Node) → Alike s s
alike_refl s = record { size = refl; key = λ q. refl; parent = λ q. refl }

pub alike_is : (s s' : List Node) → s ≡ s' → Alike s s'
alike_is s s' e = rw (sym e) (alike_refl s)

pub alike_trans : (a b c : List Node) → Alike a b → Alike b c → Alike a c
alike_trans a b c A B = record {
  size = B.size ∙ A.size;
  key = λ q. B.key q ∙ A.key q;
  parent = λ q. B.parent q ∙ A.parent q;
}

-- either way alike
pub alike_cond : (s : List Node) (b : Bool) (x y : List Node) → Alike s x → Alike s y → Alike s (cond b x y)
alike_cond s true x y A B = A
alike_cond s false x y A B = B

pub alike_update : (s : List Node) (r f v : ℕ) → Alike s (update s r f v)
alike_update s r f v = record { size = length_update s r f v; key = update_key s r f v; parent = update_parent s r f v }

-- two fields of one node
pub alike_twice : (s : List Node) (r f v g w : ℕ) → Alike s (update (update s r f v) r g w)
alike_twice s r f v g w =
    alike_trans s (update s r f v) (update (update s r f v) r g w) (alike_update s r f v) (alike_update (update s r f v) r g w)

pub alike_seen : (s : List Node) (r : ℕ) → Alike s (make_seen s r)
alike_seen s r = record { size = length_seen s r; key = seen_key s r; parent = seen_parent s r }

pub alike_create : (s : List Node) (p k : ℕ) → Alike (ensure s p k).state (get_or_create s p k).state
unfolding get_or_create
alike_create s p k = alike_seen (ensure s p k).state (ensure s p k).number

-- a change of each node
pub map_node : (f : Node → Node) → f (bare 0 0) ≡ bare 0 0 → (s : List Node) (q : ℕ) → node_of (map f s) q ≡ f (node_of s q)
unfolding node_of
map_node f e s zero = sym e
map_node f e s (suc q) = ap (get_or (map f s) q) (sym e) ∙ get_or-map f s q (bare 0 0)

pub alike_map : (f : Node → Node) → f (bare 0 0) ≡ bare 0 0 → ((n : Node) → (f n).key ≡ n.key) → ((n : Node) → (f n).parent ≡ n.parent)
    → (s : List Node) → Alike s (map f s)
alike_map f e key parent s = record {
  size = length-map s f;
  key = λ q. ap (λ (n : Node). n.key) (map_node f e s q) ∙ key (node_of s q);
  parent = λ q. ap (λ (n : Node). n.parent) (map_node f e s q) ∙ parent (node_of s q);
}

-- a part of the nodes, by place
module _ (g : Node → ℕ) where
  by_place : (s s' : List Node) → ((q : ℕ) → g (node_of s' q) ≡ g (node_of s q)) → (i : ℕ)
      → g (get_or s' i (bare 0 0)) ≡ g (get_or s i (bare 0 0))
  by_place s s' h i = ap g (at s' i) ∙ h (suc i) ∙ ap g (sym (at s i))

  by_number : (s s' : List Node) → ((i : ℕ) → g (get_or s' i (bare 0 0)) ≡ g (get_or s i (bare 0 0))) → (q : ℕ)
      → g (node_of s' q) ≡ g (node_of s q)
  unfolding node_of
  by_number s s' h zero = refl
  by_number s s' h (suc q) = h q

  add_part : (s s' : List Node) (n : Node) → length s' ≡ length s → ((i : ℕ) → g (get_or s' i (bare 0 0)) ≡ g (get_or s i (bare 0 0)))
      → (i : ℕ) → g (get_or (s' ++ n ∷ []) i (bare 0 0)) ≡ g (get_or (s ++ n ∷ []) i (bare 0 0))
  add_part [] [] n l h i = refl
  add_part [] (x ∷ s') n l h i = absurd (omega arith)
  add_part (x ∷ s) [] n l h i = absurd (omega arith)
  add_part (x ∷ s) (y ∷ s') n l h zero = h 0
  add_part (x ∷ s) (y ∷ s') n l h (suc i) = add_part s s' n (omega arith) (λ j. h (suc j)) i

  added : (s s' : List Node) (n : Node) → length s' ≡ length s → ((q : ℕ) → g (node_of s' q) ≡ g (node_of s q))
      → (q : ℕ) → g (node_of (s' ++ n ∷ []) q) ≡ g (node_of (s ++ n ∷ []) q)
  added s s' n l h = by_number (s ++ n ∷ []) (s' ++ n ∷ []) (add_part s s' n l (by_place s s' h))

add_alike : (s s' : List Node) (n : Node) → Alike s s' → Alike (s ++ n ∷ []) (s' ++ n ∷ [])
add_alike s s' n A = record {
  size =
      let a : length (s ++ n ∷ []) ≡ length s + 1 = length-append s (n ∷ []) in
      let b : length (s' ++ n ∷ []) ≡ length s' + 1 = length-append s' (n ∷ []) in
      let e = A.size in omega arith;
  key = added (λ n. n.key) s s' n A.size A.key;
  parent = added (λ n. n.parent) s s' n A.size A.parent;
}

-- a search depends on keys and parents alone
pub find_same : (s s' : List Node) (p k n : ℕ) → ((q : ℕ) → 1 ≤ q → q ≤ n → (node_of s' q).key ≡ (node_of s q).key)
    → ((q : ℕ) → 1 ≤ q → q ≤ n → (node_of s' q).parent ≡ (node_of s q).parent) → find_to s' p k n ≡ find_to s p k n
unfolding find_to
find_same s s' p k zero f g = refl
find_same s s' p k (suc n) f g = λ i.
    cond (eqb (g (suc n) (omega arith) (omega arith) i) p && eqb (f (suc n) (omega arith) (omega arith) i) k) (suc n)
    (find_same s s' p k n (λ q q1 qn. f q q1 (omega arith)) (λ q q1 qn. g q q1 (omega arith)) i)

-- the lookups are as they were
pub alike_find : (s s' : List Node) → Alike s s' → (p k : ℕ) → find_in s' p k ≡ find_in s p k
unfolding find_in
alike_find s s' A p k = ap (find_to s' p k) A.size ∙ find_same s s' p k (length s) (λ q _ _. A.key q) (λ q _ _. A.parent q)

-- and so are the numbers and paths
from_alike : (ps : List (List ℕ)) (s s' : List Node) → length s' ≡ length s
    → ((i : ℕ) → (get_or s' i (bare 0 0)).key ≡ (get_or s i (bare 0 0)).key)
    → ((i : ℕ) → (get_or s' i (bare 0 0)).parent ≡ (get_or s i (bare 0 0)).parent) → paths_from ps s' ≡ paths_from ps s
from_alike ps [] [] l e q = refl
from_alike ps [] (y ∷ s') l e q = absurd (omega arith)
from_alike ps (x ∷ s) [] l e q = absurd (omega arith)
from_alike ps (x ∷ s) (y ∷ s') l e q =
    (λ i. paths_from (ps ++ (get_or ps (q 0 i - 1) [] ++ e 0 i ∷ []) ∷ []) s')
    ∙ from_alike (ps ++ (get_or ps (x.parent - 1) [] ++ x.key ∷ []) ∷ []) s s' (omega arith) (λ i. e (suc i)) (λ i. q (suc i))

paths_same : (s s' : List Node) → length s' ≡ length s → ((i : ℕ) → (get_or s' i (bare 0 0)).key ≡ (get_or s i (bare 0 0)).key)
    → ((i : ℕ) → (get_or s' i (bare 0 0)).parent ≡ (get_or s i (bare 0 0)).parent) → paths s' ≡ paths s
unfolding paths
paths_same [] [] l e q = refl
paths_same [] (y ∷ s') l e q = absurd (omega arith)
paths_same (x ∷ s) [] l e q = absurd (omega arith)
paths_same (x ∷ s) (y ∷ s') l e q = from_alike ([] ∷ []) s s' (omega arith) (λ i. e (suc i)) (λ i. q (suc i))

pub alike_paths : (s s' : List Node) → Alike s s' → paths s' ≡ paths s
alike_paths s s' A = paths_same s s' A.size (by_place (λ n. n.key) s s' A.key) (by_place (λ n. n.parent) s s' A.parent)

-- a path made in states that are alike
pub alike_ensure : (s s' : List Node) (p k : ℕ) → Alike s s' → Alike (ensure s p k).state (ensure s' p k).state
unfolding ensure
alike_ensure s s' p k A = rw (alike_find s s' A p k) (go (eqb (find_in s p k) 0))
  where
    go : (b : Bool)
        → Alike (cond {A = Made} b (record { state = s ++ bare p k ∷ []; number = length s + 1 }) (record { state = s; number = find_in s p k })).state
        (cond {A = Made} b (record { state = s' ++ bare p k ∷ []; number = length s' + 1 }) (record { state = s'; number = find_in s p k })).state
    go true = add_alike s s' (bare p k) A
    go false = A
