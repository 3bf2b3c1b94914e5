-- A formed state stays formed when a path is made or made seen, and a table that holds a formed state is sound.
use Rattle.std.proofs.Common.{◌≡◌, ℕ, zero, suc, ◌+◌, ◌<◌, ◌≤◌, Bool, true, false, cond, ◌&&◌, eqb, leb, List, [], ◌∷◌, ◌++◌, map, length, get_or, set, sym, refl, ap, ◌∙◌, ⊎_elim, eq-or-lt_of_le, arith, length-append, get_or-set_same, eqb-true}
use mathlib.Core.Bool.{and-eq-true_iff}
use native.Mathlib.Decide.{ℕ_discrete}
use Rattle.limits.specs.Fields as field
use Rattle.facts.specs.State.{Node, bare, root, nodes, node_of, encode}
use Rattle.facts.specs.Fact.{are_flags}
use Rattle.facts.specs.Checks.{is_record}
use Rattle.facts.specs.Sound.{Sound}
use Rattle.facts.specs.Formed.{Formed, TableOf}
use Rattle.facts.proofs.Encode.{length_nodes}
use Rattle.facts.proofs.States.{sound_formed, sound_exactly}
use Rattle.facts.proofs.Whole.{fact_parts, parts_fact}
use Rattle.paths.specs.Update.{with_field, update}
use Rattle.paths.specs.Find.{find_in}
use Rattle.paths.specs.Make.{Made, ensure, make_seen, get_or_create}
use Rattle.paths.specs.Represents.{Represents}
use Rattle.paths.specs.Order.{Ordered, UnderSeen}
use Rattle.paths.proofs.Frame.{shaped_encode}
use Rattle.paths.proofs.Kept.{length_update, seen_keeps}
use Rattle.paths.proofs.Reach.{under_seen, ordered_ensure, under_ensure, ensure_range, add_node, last_node}
use Rattle.paths.proofs.Reach.{update_other}
use Rattle.paths.proofs.Alike.{Alike, alike_update, alike_twice, alike_seen, map_node, alike_map}
use Rattle.paths.proofs.Lookups.{none_found}

-- tables and states: the way out (`sound_formed` is the way in)
pub held_sound : (t : List ℕ) (used N : ℕ) (s : List Node) → Represents t used N s → Formed s → Sound t used N
held_sound t used N s H F =
    let E : TableOf t used N = record {
      state = s;
      formed = F;
      paths = ap length (sym H.state) ∙ length_nodes t used;
      fits = H.shaped.most;
      is = shaped_encode t used N H.shaped ∙ ap (encode N) H.state;
    } in
    (sound_exactly t used N).1 E

-- an operation that keeps formed states formed keeps sound tables sound
pub keeps_sound : (op : List Node → List Node) (t t' : List ℕ) (used used' N : ℕ) → (Formed (nodes t used) → Formed (op (nodes t used)))
    → Sound t used N
    → Represents t' used' N (op (nodes t used)) → Sound t' used' N
keeps_sound op t t' used used' N f S H = held_sound t' used' N (op (nodes t used)) H (f (sound_formed t used N S))

-- a number of a sound table's record is a node's
pub within : (t : List ℕ) (used r : ℕ) → r ≤ used → r ≤ length (nodes t used)
within t used r h = let l = length_nodes t used in omega arith

module _ (s : List Node) (F : Formed s) where
  pub formed_ordered : Ordered s
  formed_ordered = record { some = F.some; root = ap (λ (n : Node). n.parent) F.first; lower = F.lower }

  pub formed_under : UnderSeen s
  formed_under = record { parent = F.seen_parent }

  -- a state with the same paths
  pub formed_alike : (s' : List Node) → Alike s s' → node_of s' 1 ≡ root → ((q : ℕ) → 1 ≤ q → q ≤ length s → is_record (node_of s' q) ≡ true)
      → UnderSeen s' → Formed s'
  formed_alike s' A e f U = let l = A.size in record {
    some = let h = F.some in omega arith;
    first = e;
    lower = λ r r1 h. rw (A.parent r) (F.lower r r1 (omega arith));
    distinct = λ r q r1 h q1 g a b. F.distinct r q r1 (omega arith) q1 (omega arith)
        (sym (A.parent r) ∙ a ∙ A.parent q) (sym (A.key r) ∙ b ∙ A.key q);
    fact = λ r r1 h. f r r1 (omega arith);
    seen_parent = U.parent;
  }

-- what holds of each node, where a store keeps it
set_keeps : (C : Node → Type 0) (s : List Node) (i j : ℕ) (n d : Node) → (C (get_or s i d) → C n) → C (get_or s j d) → C (get_or (set s i n) j d)
set_keeps C [] i j n d f h = h
set_keeps C (x ∷ s) zero zero n d f h = f h
set_keeps C (x ∷ s) zero (suc j) n d f h = h
set_keeps C (x ∷ s) (suc i) zero n d f h = h
set_keeps C (x ∷ s) (suc i) (suc j) n d f h = set_keeps C s i j n d f h

pub update_keeps : (C : Node → Type 0) (s : List Node) (r f v q : ℕ) → ((n : Node) → C n → C (with_field f v n)) → C (node_of s q)
    → C (node_of (update s r f v) q)
unfolding update node_of
update_keeps C s zero f v q g h = h
update_keeps C s (suc r) f v zero g h = h
update_keeps C s (suc r) f v (suc q) g h = set_keeps C s r q (with_field f v (node_of s (suc r))) (bare 0 0) (g (node_of s (suc r))) h

-- flags, one by one
pub record Flags (n : Node) : Type 0 where
  pub seen : leb n.seen 1 ≡ true
  pub not_bool : leb n.not_bool 1 ≡ true
  pub blocked : leb n.blocked 1 ≡ true

pub flags_parts : (n : Node) → are_flags n ≡ true → Flags n
flags_parts n h =
    let a = (and-eq-true_iff (leb n.seen 1 && leb n.not_bool 1) (leb n.blocked 1)).0 h in
    let b = (and-eq-true_iff (leb n.seen 1) (leb n.not_bool 1)).0 a.0 in
    record { seen = b.0; not_bool = b.1; blocked = a.1 }

pub parts_flags : (n : Node) → Flags n → are_flags n ≡ true
parts_flags n f = λ i. f.seen i && f.not_bool i && f.blocked i

-- a fact made seen is a fact
seen_fact : (n : Node) → is_record n ≡ true → is_record (with_field field.seen 1 n) ≡ true
unfolding with_field
seen_fact n h =
    let p = fact_parts n h in
    let f = flags_parts n p.first in
    parts_fact (with_field field.seen 1 n) (record {
      first = parts_flags (with_field field.seen 1 n) (record { seen = refl; not_bool = f.not_bool; blocked = f.blocked });
      second = refl;
      third = p.third;
      fourth = p.fourth;
      fifth = p.fifth;
      sixth = p.sixth;
    })

-- the root made seen is the root
seen_root : (n : Node) → n ≡ root → with_field field.seen 1 n ≡ root
unfolding with_field
seen_root n e = ap (with_field field.seen 1) e

-- a path made seen
pub formed_seen : (s : List Node) (r : ℕ) → Formed s → r ≤ length s → Formed (make_seen s r)
formed_seen s r F h =
    formed_alike s F (make_seen s r) (alike_seen s r)
    (seen_keeps (λ x. node_of x 1 ≡ root) (λ x c e. update_keeps (λ n. n ≡ root) x c field.seen 1 1 seen_root e) s r F.first)
    (λ q q1 qs. seen_keeps (λ x. is_record (node_of x q) ≡ true) (λ x c e. update_keeps (λ n. is_record n ≡ true) x c field.seen 1 q seen_fact e) s r (F.fact q q1 qs))
    (under_seen s r (formed_ordered s F) h (formed_under s F))

-- a new node
bare_fact : (p k : ℕ) → is_record (bare p k) ≡ true
unfolding is_record
bare_fact p k = refl

module _ (s : List Node) (p k : ℕ) (F : Formed s) (p1 : 1 ≤ p) (ps : p ≤ length s) where
  abbrev More : List Node
  More = s ++ bare p k ∷ []

  -- a number is the new node's, or one that was there
  old_or_new : (C : Type 0) (r : ℕ) → r ≤ length More → (r ≤ length s → C) → (r ≡ length s + 1 → C) → C
  old_or_new C r h f g =
      let l : length More ≡ length s + 1 = length-append s (bare p k ∷ []) in
      ⊎_elim (λ (e : r ≡ length s + 1). g e) (λ (w : r < length s + 1). f (omega arith))
      (eq-or-lt_of_le (let x : r ≤ length s + 1 = omega arith in x))

  new_node : (r : ℕ) → r ≡ length s + 1 → node_of More r ≡ bare p k
  new_node r e = ap (node_of More) e ∙ last_node s (bare p k)

  -- no path stands twice, since the new one was not there
  apart : find_in s p k ≡ 0 → (r q : ℕ) → 1 < r → r ≤ length More → 1 < q → q ≤ length More → (node_of More r).parent ≡ (node_of More q).parent
      → (node_of More r).key ≡ (node_of More q).key → r ≡ q
  apart z r q r1 h q1 g a b =
      old_or_new (r ≡ q) r h
      (λ (ro : r ≤ length s).
      let n = add_node s (bare p k) r (omega arith) ro in
      old_or_new (r ≡ q) q g
      (λ (qo : q ≤ length s).
      let m = add_node s (bare p k) q (omega arith) qo in
      F.distinct r q r1 ro q1 qo (sym (ap (λ (x : Node). x.parent) n) ∙ a ∙ ap (λ (x : Node). x.parent) m)
      (sym (ap (λ (x : Node). x.key) n) ∙ b ∙ ap (λ (x : Node). x.key) m))
      (λ (e : q ≡ length s + 1).
      absurd (none_found s p k z r (omega arith) ro (sym (ap (λ (x : Node). x.parent) n) ∙ a ∙ ap (λ (x : Node). x.parent) (new_node q e))
      (sym (ap (λ (x : Node). x.key) n) ∙ b ∙ ap (λ (x : Node). x.key) (new_node q e)))))
      (λ (e : r ≡ length s + 1).
      old_or_new (r ≡ q) q g
      (λ (qo : q ≤ length s).
      let m = add_node s (bare p k) q (omega arith) qo in
      absurd (none_found s p k z q (omega arith) qo (sym (ap (λ (x : Node). x.parent) m) ∙ sym a ∙ ap (λ (x : Node). x.parent) (new_node r e))
      (sym (ap (λ (x : Node). x.key) m) ∙ sym b ∙ ap (λ (x : Node). x.key) (new_node r e))))
      (λ (w : q ≡ length s + 1). e ∙ sym w))

  formed_added : find_in s p k ≡ 0 → Ordered More → UnderSeen More → Formed More
  formed_added z O U = record {
    some = O.some;
    first = add_node s (bare p k) 1 (omega arith) F.some ∙ F.first;
    lower = O.lower;
    distinct = apart z;
    fact = λ r r1 h. old_or_new (is_record (node_of More r) ≡ true) r h
        (λ (o : r ≤ length s). ap is_record (add_node s (bare p k) r r1 o) ∙ F.fact r r1 o)
        (λ (e : r ≡ length s + 1). ap is_record (new_node r e) ∙ bare_fact p k);
    seen_parent = U.parent;
  }

  -- a path made
  pub formed_ensure : Formed (ensure s p k).state
  unfolding ensure
  formed_ensure =
      go (eqb (find_in s p k) 0) refl (ordered_ensure s p k (formed_ordered s F) p1 ps) (under_ensure s p k (formed_ordered s F) (formed_under s F))
    where
      S : Bool → List Node
      S b =
          (cond {A = Made} b (record { state = s ++ bare p k ∷ []; number = length s + 1 }) (record { state = s; number = find_in s p k })).state

      go : (b : Bool) → eqb (find_in s p k) 0 ≡ b → Ordered (S b) → UnderSeen (S b) → Formed (S b)
      go true e O U = formed_added (eqb-true (find_in s p k) 0 e) O U
      go false e O U = F

  -- `get_or_create`
  pub formed_create : Formed (get_or_create s p k).state
  unfolding get_or_create
  formed_create = formed_seen (ensure s p k).state (ensure s p k).number formed_ensure (ensure_range s p k).1

-- one node changed: s' is s with the node n at r
record Changed (s s' : List Node) (r : ℕ) (n : Node) : Type 0 where
  size : length s' ≡ length s
  here : node_of s' r ≡ n
  other : (q : ℕ) → 1 ≤ q → (q ≡ r → ⊥) → node_of s' q ≡ node_of s q

pub update_here : (s : List Node) (r f v : ℕ) → 1 ≤ r → r ≤ length s → node_of (update s r f v) r ≡ with_field f v (node_of s r)
unfolding update node_of
update_here s zero f v r1 h = absurd (omega arith)
update_here s (suc r) f v r1 h = get_or-set_same s r (with_field f v (node_of s (suc r))) (bare 0 0) (omega arith)

module _ (s : List Node) (r : ℕ) (r1 : 1 ≤ r) (rs : r ≤ length s) where
  changed_once : (f v : ℕ) → Changed s (update s r f v) r (with_field f v (node_of s r))
  changed_once f v =
      record { size = length_update s r f v; here = update_here s r f v r1 rs; other = λ q q1 n. update_other s r f v q r1 q1 n }

  changed_again : (s' : List Node) (n : Node) (f v : ℕ) → Changed s s' r n → Changed s (update s' r f v) r (with_field f v n)
  changed_again s' n f v C = record {
    size = length_update s' r f v ∙ C.size;
    here = update_here s' r f v r1 (let l = C.size in omega arith) ∙ ap (with_field f v) C.here;
    other = λ q q1 d. update_other s' r f v q r1 q1 d ∙ C.other q q1 d;
  }

-- a fact other than the root changed to another fact of the same path, as seen as it was
formed_changed : (s s' : List Node) (r : ℕ) (n : Node) → Formed s → Alike s s' → Changed s s' r n → 1 < r → n.seen ≡ (node_of s r).seen
    → is_record n ≡ true → Formed s'
formed_changed s s' r n F A C r1 e f =
    formed_alike s F s' A (C.other 1 (omega arith) (λ z. omega arith) ∙ F.first) (λ q q1 h. fact q q1 h (ℕ_discrete q r))
    (record {
      parent = λ q q1 h y. let l = C.size in let w = F.lower q q1 (omega arith) in
          ap (λ (x : ℕ). (node_of s' x).seen) (A.parent q) ∙ seen (node_of s q).parent w.0 (ℕ_discrete (node_of s q).parent r)
          ∙ F.seen_parent q q1 (omega arith) (sym (seen q (omega arith) (ℕ_discrete q r)) ∙ y);
    })
  where
    fact : (q : ℕ) → 1 ≤ q → q ≤ length s → Dec (q ≡ r) → is_record (node_of s' q) ≡ true
    fact q q1 h (yes z) = ap is_record (ap (node_of s') z ∙ C.here) ∙ f
    fact q q1 h (no d) = ap is_record (C.other q q1 d) ∙ F.fact q q1 h

    seen : (q : ℕ) → 1 ≤ q → Dec (q ≡ r) → (node_of s' q).seen ≡ (node_of s q).seen
    seen q q1 (yes z) =
        ap (λ (x : ℕ). (node_of s' x).seen) z ∙ ap (λ (x : Node). x.seen) C.here ∙ e ∙ ap (λ (x : ℕ). (node_of s x).seen) (sym z)
    seen q q1 (no d) = ap (λ (x : Node). x.seen) (C.other q q1 d)

-- one field of such a fact changed, and two
module _ (s : List Node) (r : ℕ) (F : Formed s) (r1 : 1 < r) (rs : r ≤ length s) where
  pub formed_once : (f v : ℕ) → (with_field f v (node_of s r)).seen ≡ (node_of s r).seen → is_record (with_field f v (node_of s r)) ≡ true
      → Formed (update s r f v)
  formed_once f v e h =
      formed_changed s (update s r f v) r (with_field f v (node_of s r)) F (alike_update s r f v) (changed_once s r (omega arith) rs f v) r1 e h

  pub formed_twice : (f v g w : ℕ) → (with_field g w (with_field f v (node_of s r))).seen ≡ (node_of s r).seen
      → is_record (with_field g w (with_field f v (node_of s r))) ≡ true
      → Formed (update (update s r f v) r g w)
  formed_twice f v g w e h =
      formed_changed s (update (update s r f v) r g w) r (with_field g w (with_field f v (node_of s r))) F (alike_twice s r f v g w)
      (changed_again s r (omega arith) rs (update s r f v) (with_field f v (node_of s r)) g w (changed_once s r (omega arith) rs f v)) r1 e h

pub formed_cond : (b : Bool) (x y : List Node) → Formed x → Formed y → Formed (cond b x y)
formed_cond true x y F G = F
formed_cond false x y F G = G

-- each node changed
pub formed_map : (f : Node → Node) → f (bare 0 0) ≡ bare 0 0 → f root ≡ root → ((n : Node) → (f n).key ≡ n.key)
    → ((n : Node) → (f n).parent ≡ n.parent)
    → ((n : Node) → (f n).seen ≡ n.seen) → ((n : Node) → is_record n ≡ true → is_record (f n) ≡ true) → (s : List Node) → Formed s → Formed (map f s)
formed_map f e er key parent seen fact s F =
    formed_alike s F (map f s) A (got 1 ∙ ap f F.first ∙ er) (λ q q1 h. ap is_record (got q) ∙ fact (node_of s q) (F.fact q q1 h))
    (record {
      parent = λ q q1 h y. let l = A.size in
          ap (λ (x : ℕ). (node_of (map f s) x).seen) (A.parent q) ∙ same (node_of s q).parent ∙ F.seen_parent q q1 (omega arith) (sym (same q) ∙ y);
    })
  where
    A : Alike s (map f s)
    A = alike_map f e key parent s

    got : (q : ℕ) → node_of (map f s) q ≡ f (node_of s q)
    got q = map_node f e s q

    same : (q : ℕ) → (node_of (map f s) q).seen ≡ (node_of s q).seen
    same q = ap (λ (n : Node). n.seen) (got q) ∙ seen (node_of s q)
