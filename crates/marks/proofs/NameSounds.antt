-- A formed state stays formed when a name is set or dropped, a mark is set or a hint is cleared.
use Prim.Native.Nat.{ℕ, ◌≤◌, ◌<◌, max}
use mathlib.Core.Path.{◌≡◌, refl, sym, ap, ◌∙◌}
use mathlib.Core.Bool.{Bool, true, false, true≢false, cond, ◌&&◌, ◌||◌}
use mathlib.Core.List.{List}
use native.Mathlib.Omega.{arith}
use lib.Dec.{eqb, leb}
use lib.ListN.{length}
use borrow.Author.Tests.{eqb-false, ne_eqb, le-leb, leb-true}
use Rattle.limits.specs.Codes as code
use Rattle.limits.specs.Fields as field
use Rattle.limits.specs.Limits.{confidence_max}
use Rattle.names.specs.Elementary.{is_name}
use Rattle.facts.specs.State.{Node, node_of}
use Rattle.facts.specs.Fact.{is_bare}
use Rattle.facts.specs.Checks.{is_record}
use Rattle.facts.specs.Formed.{Formed}
use Rattle.facts.proofs.Whole.{fact_parts, parts_fact, bare_zeros}
use Rattle.paths.specs.Update.{with_field, update}
use Rattle.paths.specs.Find.{get_mut}
use Rattle.paths.specs.Make.{ensure, get_or_create}
use Rattle.paths.proofs.Kept.{length_update, length_seen, made_seen}
use Rattle.paths.proofs.Reach.{ensure_range}
use Rattle.paths.proofs.Lookups.{found_node, found_above, got_node, ensure_above}
use Rattle.paths.proofs.Sounds.{flags_parts, parts_flags, formed_ordered, formed_ensure, formed_create, formed_once}
use Rattle.paths.proofs.Sounds.{formed_twice, formed_cond}
use Rattle.marks.specs.Names.{is_range, drop_name, give_name, name_at, name_made, set_tname, insert_not_bool, drop_bool_at}
use Rattle.marks.specs.Names.{drop_bool, mark_not_bool}
use Rattle.marks.specs.Hints.{clear_at, clear_range_hint}
use Rattle.marks.proofs.NameLaws.{stops, keeps, bars}
use Rattle.marks.proofs.Counts.{alike_drop_bool}

-- one node
pub name_some : (name : ℕ) → is_name name ≡ true → name ≡ code.no_name → ⊥
unfolding is_name
name_some name h z = true≢false (sym h ∙ ap is_name z)

-- a fact with another name
pub name_fact : (n : Node) (name confidence : ℕ) → is_record n ≡ true → n.seen ≡ 1 → is_name name ≡ true → 1 ≤ confidence
    → confidence ≤ confidence_max
    → is_record (with_field field.confidence confidence (with_field field.name name n)) ≡ true
unfolding with_field
name_fact n name confidence h y a c1 c2 =
    let p = fact_parts n h in
    let e = ne_eqb name code.no_name (name_some name a) in
    parts_fact (with_field field.confidence confidence (with_field field.name name n)) (record {
      first = p.first;
      second = rw y refl;
      third = p.third;
      fourth = rw e (λ i. le-leb 1 confidence c1 i && le-leb confidence confidence_max c2 i);
      fifth = p.fifth;
      sixth = rw e a;
    })

-- with none
pub drop_fact : (n : Node) → is_record n ≡ true → is_record (with_field field.confidence 0 (with_field field.name code.no_name n)) ≡ true
unfolding with_field
drop_fact n h =
    let p = fact_parts n h in
    parts_fact (with_field field.confidence 0 (with_field field.name code.no_name n)) (record {
      first = p.first;
      second = go (leb 1 n.seen) p.second;
      third = p.third;
      fourth = refl;
      fifth = p.fifth;
      sixth = refl;
    })
  where
    go : (b : Bool) → (b || is_bare n) ≡ true → (b || is_bare (with_field field.confidence 0 (with_field field.name code.no_name n))) ≡ true
    go true e = refl
    go false e = let z = bare_zeros n e in λ i. eqb (z.blocked i) 0 && eqb (z.kind i) 0 && eqb (z.count i) 0 && true && true

-- marked not-bool, seen or not
pub mark_fact : (n : Node) → is_record n ≡ true → is_record (with_field field.not_bool 1 n) ≡ true
unfolding with_field
mark_fact n h =
    let p = fact_parts n h in
    let f = flags_parts n p.first in
    parts_fact (with_field field.not_bool 1 n) (record {
      first = parts_flags (with_field field.not_bool 1 n) (record { seen = f.seen; not_bool = refl; blocked = f.blocked });
      second = p.second;
      third = p.third;
      fourth = p.fourth;
      fifth = p.fifth;
      sixth = p.sixth;
    })

-- blocked, if it is seen
pub block_fact : (n : Node) (v : ℕ) → is_record n ≡ true → n.seen ≡ 1 → v ≤ 1 → is_record (with_field field.blocked v n) ≡ true
unfolding with_field
block_fact n v h y l =
    let p = fact_parts n h in
    let f = flags_parts n p.first in
    parts_fact (with_field field.blocked v n) (record {
      first = parts_flags (with_field field.blocked v n) (record { seen = f.seen; not_bool = f.not_bool; blocked = le-leb v 1 l });
      second = rw y refl;
      third = p.third;
      fourth = p.fourth;
      fifth = p.fifth;
      sixth = p.sixth;
    })

pub blocked_most : (n : Node) → is_record n ≡ true → n.blocked ≤ 1
blocked_most n h = leb-true n.blocked 1 (flags_parts n (fact_parts n h).first).blocked

-- at a node other than the root
module _ (s : List Node) (r : ℕ) (F : Formed s) (r1 : 1 < r) (rs : r ≤ length s) where
  fact_at : is_record (node_of s r) ≡ true
  fact_at = F.fact r (omega arith) rs

  pub formed_name : (name confidence : ℕ) → (node_of s r).seen ≡ 1 → is_name name ≡ true → 1 ≤ confidence → confidence ≤ confidence_max
      → Formed (name_at s r name confidence)
  unfolding with_field
  formed_name name confidence y a c1 c2 =
      formed_cond (stops s r confidence) s (cond (keeps s r confidence) s (give_name s r name confidence)) F
      (formed_cond (keeps s r confidence) s (give_name s r name confidence) F
      (formed_twice s r F r1 rs field.name name field.confidence confidence refl (name_fact (node_of s r) name confidence fact_at y a c1 c2)))

  pub formed_drop_name : Formed (drop_name s r)
  unfolding with_field
  formed_drop_name = formed_twice s r F r1 rs field.name code.no_name field.confidence 0 refl (drop_fact (node_of s r) fact_at)

  pub formed_mark : Formed (update s r field.not_bool 1)
  unfolding with_field
  formed_mark = formed_once s r F r1 rs field.not_bool 1 refl (mark_fact (node_of s r) fact_at)

  pub formed_block : (v : ℕ) → (node_of s r).seen ≡ 1 → v ≤ 1 → Formed (update s r field.blocked v)
  unfolding with_field
  formed_block v y l = formed_once s r F r1 rs field.blocked v refl (block_fact (node_of s r) v fact_at y l)

flag_most : (b : Bool) → cond b 1 0 ≤ 1
flag_most true = omega arith
flag_most false = omega arith

pub formed_clear : (s : List Node) (r : ℕ) (block : Bool) → Formed s → 1 < r → r ≤ length s → (node_of s r).seen ≡ 1
    → Formed (clear_at s r block)
formed_clear s r block F r1 rs y =
    let l = flag_most block in
    let v = max (node_of s r).blocked (cond block 1 0) in
    let b = blocked_most (node_of s r) (F.fact r (omega arith) rs) in
    let G : Formed (update s r field.blocked v) = formed_block s r F r1 rs v y (omega arith) in
    let e = length_update s r field.blocked v in
    formed_cond (is_range (node_of s r)) (drop_name (update s r field.blocked v) r) (update s r field.blocked v)
    (formed_drop_name (update s r field.blocked v) r G r1 (omega arith)) G

pub formed_drop_bool_at : (s : List Node) (r : ℕ) → Formed s → 1 < r → r ≤ length s → Formed (drop_bool_at s r)
formed_drop_bool_at s r F r1 rs =
    formed_cond (eqb (node_of s r).name code.bool || is_range (node_of s r)) (drop_name s r) s (formed_drop_name s r F r1 rs) F

-- at a path
module _ (s : List Node) (p k : ℕ) (F : Formed s) (p1 : 1 ≤ p) where
  -- a node that `get_mut` finds is seen and not the root
  at_got : (f : List Node → ℕ → List Node) → (1 < get_mut s p k → get_mut s p k ≤ length s → (node_of s (get_mut s p k)).seen ≡ 1 → Formed (f s (get_mut s p k)))
      → Formed (cond (eqb (get_mut s p k) 0) s (f s (get_mut s p k)))
  at_got f h = go (eqb (get_mut s p k) 0) refl
    where
      go : (b : Bool) → eqb (get_mut s p k) 0 ≡ b → Formed (cond b s (f s (get_mut s p k)))
      go true e = F
      go false e =
          let G = got_node s p k (eqb-false (get_mut s p k) 0 e) in
          let l = found_above s p k (formed_ordered s F) p1 G.there in
          let m = (found_node s p k G.there).high in
          let q = G.same in
          h (omega arith) (omega arith) G.seen

  pub formed_drop_bool : Formed (drop_bool s p k)
  formed_drop_bool = at_got drop_bool_at (λ l m y. formed_drop_bool_at s (get_mut s p k) F l m)

  pub formed_clear_range_hint : (block : Bool) → Formed (clear_range_hint s p k block)
  unfolding clear_range_hint
  formed_clear_range_hint block = at_got (λ s r. clear_at s r block) (λ l m y. formed_clear s (get_mut s p k) block F l m y)

  module _ (ps : p ≤ length s) where
    pub formed_insert_not_bool : Formed (insert_not_bool s p k)
    unfolding insert_not_bool
    formed_insert_not_bool =
        formed_mark (ensure s p k).state (ensure s p k).number (formed_ensure s p k F p1 ps) (ensure_above s p k (formed_ordered s F) p1) (ensure_range s p k).1

    pub formed_set_tname : (name confidence : ℕ) → is_name name ≡ true → 1 ≤ confidence → confidence ≤ confidence_max
        → Formed (set_tname s p k name confidence)
    unfolding set_tname get_or_create
    formed_set_tname name confidence a c1 c2 =
        let h = ensure_range s p k in
        let e = length_seen (ensure s p k).state (ensure s p k).number in
        formed_cond (bars s p k name confidence) s (name_made (get_or_create s p k) name confidence) F
        (formed_name (get_or_create s p k).state (get_or_create s p k).number (formed_create s p k F p1 ps) (ensure_above s p k (formed_ordered s F) p1) (omega arith)
        name confidence (made_seen (ensure s p k).state (ensure s p k).number h.0 h.1) a c1 c2)

pub formed_mark_not_bool : (s : List Node) (p k : ℕ) → Formed s → 1 ≤ p → p ≤ length s → Formed (mark_not_bool s p k)
unfolding mark_not_bool
formed_mark_not_bool s p k F p1 ps =
    let e = (alike_drop_bool s p k).size in
    formed_insert_not_bool (drop_bool s p k) p k (formed_drop_bool s p k F p1) p1 (omega arith)
