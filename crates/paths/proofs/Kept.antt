-- What a change of the state keeps: numbers and paths never change, and a seen path stays seen.
use Rattle.std.proofs.Common.{◌≡◌, ℕ, zero, suc, ◌+◌, ◌-◌, ◌≤◌, Bool, true, false, cond, eqb, List, [], ◌∷◌, ◌++◌, length, get_or, take, set, refl, ap, ◌∙◌, arith, length-append, length-set, take_all, get_or-set_same, take_at, ne_eqb}
use Rattle.limits.specs.Fields as field
use Rattle.facts.specs.State.{Node, bare, node_of, paths_from, paths}
use Rattle.paths.specs.Update.{with_field, update}
use Rattle.paths.specs.Find.{find_in}
use Rattle.paths.specs.Make.{Made, ensure, seen_up, make_seen, get_or_create}

-- a part of the nodes that a store leaves as it is
set_part : (g : Node → ℕ) (s : List Node) (i j : ℕ) (n d : Node) → g n ≡ g (get_or s i d) → g (get_or (set s i n) j d) ≡ g (get_or s j d)
set_part g [] i j n d e = refl
set_part g (x ∷ s) zero zero n d e = e
set_part g (x ∷ s) zero (suc j) n d e = refl
set_part g (x ∷ s) (suc i) zero n d e = refl
set_part g (x ∷ s) (suc i) (suc j) n d e = set_part g s i j n d e

part_update : (g : Node → ℕ) (s : List Node) (r f v q : ℕ) → ((n : Node) → g (with_field f v n) ≡ g n) → g (node_of (update s r f v) q) ≡ g (node_of s q)
unfolding update node_of
part_update g s zero f v q e = refl
part_update g s (suc r) f v zero e = refl
part_update g s (suc r) f v (suc q) e = set_part g s r q (with_field f v (node_of s (suc r))) (bare 0 0) (e (node_of s (suc r)))

-- keys and parents never change
pub update_key : (s : List Node) (r f v q : ℕ) → (node_of (update s r f v) q).key ≡ (node_of s q).key
unfolding with_field
update_key s r f v q = part_update (λ n. n.key) s r f v q (λ n. refl)

pub update_parent : (s : List Node) (r f v q : ℕ) → (node_of (update s r f v) q).parent ≡ (node_of s q).parent
unfolding with_field
update_parent s r f v q = part_update (λ n. n.parent) s r f v q (λ n. refl)

pub length_update : (s : List Node) (r f v : ℕ) → length (update s r f v) ≡ length s
unfolding update
length_update s zero f v = refl
length_update s (suc r) f v = length-set s r (with_field f v (node_of s (suc r)))

-- paths depend on keys and parents alone
set_from : (ps : List (List ℕ)) (s : List Node) (i : ℕ) (n d : Node) → n.key ≡ (get_or s i d).key → n.parent ≡ (get_or s i d).parent → paths_from ps (set s i n) ≡ paths_from ps s
set_from ps [] i n d e q = refl
set_from ps (x ∷ s) zero n d e q = λ i. paths_from (ps ++ (get_or ps (q i - 1) [] ++ e i ∷ []) ∷ []) s
set_from ps (x ∷ s) (suc i) n d e q = set_from (ps ++ (get_or ps (x.parent - 1) [] ++ x.key ∷ []) ∷ []) s i n d e q

set_paths : (s : List Node) (i : ℕ) (n d : Node) → n.key ≡ (get_or s i d).key → n.parent ≡ (get_or s i d).parent → paths (set s i n) ≡ paths s
unfolding paths
set_paths [] i n d e q = refl
set_paths (x ∷ s) zero n d e q = refl
set_paths (x ∷ s) (suc i) n d e q = set_from ([] ∷ []) s i n d e q

pub paths_update : (s : List Node) (r f v : ℕ) → paths (update s r f v) ≡ paths s
unfolding update node_of with_field
paths_update s zero f v = refl
paths_update s (suc r) f v = set_paths s r (with_field f v (node_of s (suc r))) (bare 0 0) refl refl

-- what a turn of `seen_up` keeps, all of its turns keep
up_keeps : (P : List Node → Type 0) → ((s : List Node) (r : ℕ) → P s → P (update s r field.seen 1)) → (n : ℕ) (s : List Node) (r : ℕ) → P s → P (seen_up n s r)
unfolding seen_up
up_keeps P f zero s r h = h
up_keeps P f (suc n) s r h = go (eqb r 0) (up_keeps P f n (update s r field.seen 1) (node_of s r).parent (f s r h))
  where
    go : (b : Bool) → P (seen_up n (update s r field.seen 1) (node_of s r).parent) → P (cond b s (seen_up n (update s r field.seen 1) (node_of s r).parent))
    go true x = h
    go false x = x

pub seen_keeps : (P : List Node → Type 0) → ((s : List Node) (r : ℕ) → P s → P (update s r field.seen 1)) → (s : List Node) (r : ℕ) → P s → P (make_seen s r)
unfolding make_seen
seen_keeps P f s r h = up_keeps P f r s r h

pub paths_seen : (s : List Node) (r : ℕ) → paths (make_seen s r) ≡ paths s
paths_seen s r = seen_keeps (λ x. paths x ≡ paths s) (λ x c e. paths_update x c field.seen 1 ∙ e) s r refl

pub length_seen : (s : List Node) (r : ℕ) → length (make_seen s r) ≡ length s
length_seen s r = seen_keeps (λ x. length x ≡ length s) (λ x c e. length_update x c field.seen 1 ∙ e) s r refl

pub seen_key : (s : List Node) (r q : ℕ) → (node_of (make_seen s r) q).key ≡ (node_of s q).key
seen_key s r q = seen_keeps (λ x. (node_of x q).key ≡ (node_of s q).key) (λ x c e. update_key x c field.seen 1 q ∙ e) s r refl

pub seen_parent : (s : List Node) (r q : ℕ) → (node_of (make_seen s r) q).parent ≡ (node_of s q).parent
seen_parent s r q = seen_keeps (λ x. (node_of x q).parent ≡ (node_of s q).parent) (λ x c e. update_parent x c field.seen 1 q ∙ e) s r refl

-- seen never falls
set_seen : (s : List Node) (i j : ℕ) (n d : Node) → n.seen ≡ 1 → (get_or s j d).seen ≡ 1 → (get_or (set s i n) j d).seen ≡ 1
set_seen [] i j n d e h = h
set_seen (x ∷ s) zero zero n d e h = e
set_seen (x ∷ s) zero (suc j) n d e h = h
set_seen (x ∷ s) (suc i) zero n d e h = h
set_seen (x ∷ s) (suc i) (suc j) n d e h = set_seen s i j n d e h

pub update_seen : (s : List Node) (r q : ℕ) → (node_of s q).seen ≡ 1 → (node_of (update s r field.seen 1) q).seen ≡ 1
unfolding update node_of with_field
update_seen s zero q h = h
update_seen s (suc r) zero h = h
update_seen s (suc r) (suc q) h = set_seen s r q (with_field field.seen 1 (node_of s (suc r))) (bare 0 0) refl h

pub seen_stays : (s : List Node) (r q : ℕ) → (node_of s q).seen ≡ 1 → (node_of (make_seen s r) q).seen ≡ 1
seen_stays s r q h = seen_keeps (λ x. (node_of x q).seen ≡ 1) (λ x c e. update_seen x c q e) s r h

-- and the path is seen
pub now_seen : (s : List Node) (r : ℕ) → 1 ≤ r → r ≤ length s → (node_of (update s r field.seen 1) r).seen ≡ 1
unfolding update node_of with_field
now_seen s zero r1 h = absurd (omega arith)
now_seen s (suc r) r1 h =
    ap (λ (n : Node). n.seen) (get_or-set_same s r (with_field field.seen 1 (node_of s (suc r))) (bare 0 0) (omega arith))

up_seen : (n : ℕ) (s : List Node) (r : ℕ) → 1 ≤ r → r ≤ length s → 1 ≤ n → (node_of (seen_up n s r) r).seen ≡ 1
unfolding seen_up
up_seen zero s r r1 h n1 = absurd (omega arith)
up_seen (suc n) s r r1 h n1 =
    rw (ne_eqb r 0 (λ z. omega arith))
    (up_keeps (λ x. (node_of x r).seen ≡ 1) (λ x c e. update_seen x c r e) n (update s r field.seen 1) (node_of s r).parent (now_seen s r r1 h))

pub made_seen : (s : List Node) (r : ℕ) → 1 ≤ r → r ≤ length s → (node_of (make_seen s r) r).seen ≡ 1
unfolding make_seen
made_seen s r r1 h = up_seen r s r r1 h r1

-- a new node's path is its parent's with its key, and each other keeps its path and its number
from_snoc : (ps : List (List ℕ)) (s : List Node) (n : Node)
    → paths_from ps (s ++ n ∷ []) ≡ paths_from ps s ++ (get_or (paths_from ps s) (n.parent - 1) [] ++ n.key ∷ []) ∷ []
from_snoc ps [] n = refl
from_snoc ps (m ∷ s) n = from_snoc (ps ++ (get_or ps (m.parent - 1) [] ++ m.key ∷ []) ∷ []) s n

length_from : (ps : List (List ℕ)) (s : List Node) → length (paths_from ps s) ≡ length ps + length s
length_from ps [] = omega arith
length_from ps (n ∷ s) =
    let p = get_or ps (n.parent - 1) [] ++ n.key ∷ [] in
    let e : length (paths_from (ps ++ p ∷ []) s) ≡ length (ps ++ p ∷ []) + length s = length_from (ps ++ p ∷ []) s in
    let q : length (ps ++ p ∷ []) ≡ length ps + 1 = length-append ps (p ∷ []) in
    omega arith

pub length_paths : (s : List Node) → length (paths s) ≡ length s
unfolding paths
length_paths [] = refl
length_paths (n ∷ s) = let e = length_from ([] ∷ []) s in omega arith

pub paths_add : (s : List Node) (n : Node) → 1 ≤ length s → paths (s ++ n ∷ []) ≡ paths s ++ (get_or (paths s) (n.parent - 1) [] ++ n.key ∷ []) ∷ []
unfolding paths
paths_add [] n h = absurd (omega arith)
paths_add (m ∷ s) n h = from_snoc ([] ∷ []) s n

front_add : (s : List Node) (n : Node) → take (length s) (paths (s ++ n ∷ [])) ≡ paths s
unfolding paths
front_add [] n = refl
front_add (m ∷ s) n =
    ap (take (length (m ∷ s))) (from_snoc ([] ∷ []) s n)
    ∙ take_at (paths_from ([] ∷ []) s) ((get_or (paths_from ([] ∷ []) s) (n.parent - 1) [] ++ n.key ∷ []) ∷ []) (length (m ∷ s)) (let e = length_from ([] ∷ []) s in omega arith)

-- record numbers and paths never change
pub paths_ensure : (s : List Node) (p k : ℕ) → take (length s) (paths (ensure s p k).state) ≡ paths s
unfolding ensure
paths_ensure s p k = go (eqb (find_in s p k) 0)
  where
    go : (b : Bool) → take (length s) (paths (cond {A = Made} b (record { state = s ++ bare p k ∷ []; number = length s + 1 }) (record { state = s; number = find_in s p k })).state) ≡ paths s
    go true = front_add s (bare p k)
    go false = take_all (length s) (paths s) (let e = length_paths s in omega arith)

pub paths_create : (s : List Node) (p k : ℕ) → take (length s) (paths (get_or_create s p k).state) ≡ paths s
unfolding get_or_create
paths_create s p k = ap (take (length s)) (paths_seen (ensure s p k).state (ensure s p k).number) ∙ paths_ensure s p k

-- making seen changes nothing else of a node
part_seen : (g : Node → ℕ) → ((n : Node) → g (with_field field.seen 1 n) ≡ g n) → (s : List Node) (r q : ℕ) → g (node_of (make_seen s r) q) ≡ g (node_of s q)
part_seen g e s r q = seen_keeps (λ x. g (node_of x q) ≡ g (node_of s q)) (λ x c h. part_update g x c field.seen 1 q e ∙ h) s r refl

pub seen_else : (s : List Node) (r q : ℕ) → node_of (make_seen s r) q ≡ with_field field.seen (node_of (make_seen s r) q).seen (node_of s q)
unfolding with_field
seen_else s r q = λ i. record {
  key = part_seen (λ n. n.key) (λ n. refl) s r q i;
  parent = part_seen (λ n. n.parent) (λ n. refl) s r q i;
  seen = (node_of (make_seen s r) q).seen;
  not_bool = part_seen (λ n. n.not_bool) (λ n. refl) s r q i;
  blocked = part_seen (λ n. n.blocked) (λ n. refl) s r q i;
  kind = part_seen (λ n. n.kind) (λ n. refl) s r q i;
  count = part_seen (λ n. n.count) (λ n. refl) s r q i;
  name = part_seen (λ n. n.name) (λ n. refl) s r q i;
  confidence = part_seen (λ n. n.confidence) (λ n. refl) s r q i;
}
