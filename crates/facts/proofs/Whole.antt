-- Question 2 in parts, as `is_sound` asks them, and as a whole.
use Prim.Native.Nat.{ℕ, suc, ◌+◌, ◌-◌, ◌*◌, ◌/◌, ◌%◌, ◌≤◌, ◌<◌}
use mathlib.Core.Path.{◌≡◌, sym, ◌∙◌}
use mathlib.Core.Bool.{Bool, true, false, true≢false, ◌&&◌, ◌||◌, and-eq-true_iff}
use mathlib.Core.List.{List}
use native.Mathlib.Decide.{ℕ_discrete}
use native.Mathlib.Omega.{arith}
use borrow.Author.Tests.{eqb-true, eq-eqb, ne_eqb, leb-true}
use lib.Dec.{eqb, leb}
use lib.ListN.{length}
use Rattle.limits.specs.Limits.{record_width}
use Rattle.names.specs.Elementary.{is_name}
use Rattle.facts.specs.Table.{fld, key_of, parent_of, next_of, seen_of, not_bool_of, blocked_of, Blank}
use Rattle.facts.specs.Access.{ZeroFrom}
use Rattle.facts.specs.Linked.{Chained}
use Rattle.facts.specs.State.{Node, node_at}
use Rattle.facts.specs.Fact.{are_flags, is_bare, is_bare_unseen, is_kind, is_confidence, is_count, is_named}
use Rattle.facts.specs.Checks.{is_record}
use Rattle.facts.specs.Checks.{is_under_seen, AreRecords, is_root}
use Rattle.facts.specs.Sound.{Root, Sound}
use Rattle.facts.proofs.Laws.{column}

-- a conjunction and its parts
pub record Six (a b c d e f : Bool) : Type 0 where
  pub first : a ≡ true
  pub second : b ≡ true
  pub third : c ≡ true
  pub fourth : d ≡ true
  pub fifth : e ≡ true
  pub sixth : f ≡ true

six : (a b c d e f : Bool) → (a && b && c && d && e && f) ≡ true → Six a b c d e f
six a b c d e f h =
    let p = (and-eq-true_iff (a && b && c && d && e) f).0 h in
    let q = (and-eq-true_iff (a && b && c && d) e).0 p.0 in
    let r = (and-eq-true_iff (a && b && c) d).0 q.0 in
    let s = (and-eq-true_iff (a && b) c).0 r.0 in
    let t = (and-eq-true_iff a b).0 s.0 in
    record { first = t.0; second = t.1; third = s.1; fourth = r.1; fifth = q.1; sixth = p.1 }

six_true : (a b c d e f : Bool) → Six a b c d e f → (a && b && c && d && e && f) ≡ true
six_true a b c d e f s = λ i. s.first i && s.second i && s.third i && s.fourth i && s.fifth i && s.sixth i

-- the tests of a record's own fields
pub fact_parts : (n : Node) → is_record n ≡ true → Six (are_flags n) (is_bare_unseen n) (is_kind n) (is_confidence n) (is_count n) (is_named n)
unfolding is_record
fact_parts n h = six (are_flags n) (is_bare_unseen n) (is_kind n) (is_confidence n) (is_count n) (is_named n) h

pub parts_fact : (n : Node) → Six (are_flags n) (is_bare_unseen n) (is_kind n) (is_confidence n) (is_count n) (is_named n) → is_record n ≡ true
unfolding is_record
parts_fact n s = six_true (are_flags n) (is_bare_unseen n) (is_kind n) (is_confidence n) (is_count n) (is_named n) s

-- the last five fields are zero
pub record Bare (n : Node) : Type 0 where
  pub blocked : n.blocked ≡ 0
  pub kind : n.kind ≡ 0
  pub count : n.count ≡ 0
  pub name : n.name ≡ 0
  pub confidence : n.confidence ≡ 0

pub bare_zeros : (n : Node) → is_bare n ≡ true → Bare n
bare_zeros n h =
    let s = six true (eqb n.blocked 0) (eqb n.kind 0) (eqb n.count 0) (eqb n.name 0) (eqb n.confidence 0) h in
    record {
      blocked = eqb-true n.blocked 0 s.second;
      kind = eqb-true n.kind 0 s.third;
      count = eqb-true n.count 0 s.fourth;
      name = eqb-true n.name 0 s.fifth;
      confidence = eqb-true n.confidence 0 s.sixth;
    }

module _ (t : List ℕ) where
  pub is_root_lem : is_root t ≡ true → Root t
  unfolding is_root
  is_root_lem h =
      let s = six (eqb (seen_of t 1) 1) (eqb (key_of t 1) 0) (eqb (parent_of t 1) 0) (eqb (next_of t 1) 0) (eqb (not_bool_of t 1) 0) (is_bare (node_at t 1)) h in
      record {
        seen = eqb-true (seen_of t 1) 1 s.first;
        key = eqb-true (key_of t 1) 0 s.second;
        parent = eqb-true (parent_of t 1) 0 s.third;
        next = eqb-true (next_of t 1) 0 s.fourth;
        not_bool = eqb-true (not_bool_of t 1) 0 s.fifth;
        last_five = s.sixth;
      }

  pub root_is : Root t → is_root t ≡ true
  unfolding is_root
  root_is R = rw (R.seen, R.key, R.parent, R.next, R.not_bool, R.last_five)

  -- a root passes the tests of every record
  pub root_fact : Root t → is_record (node_at t 1) ≡ true
  unfolding is_record is_name
  root_fact R =
      let b = bare_zeros (node_at t 1) R.last_five in
      λ i. is_record (record {
        key = key_of t 1;
        parent = parent_of t 1;
        seen = R.seen i;
        not_bool = R.not_bool i;
        blocked = b.blocked i;
        kind = b.kind i;
        count = b.count i;
        name = b.name i;
        confidence = b.confidence i;
      })

-- of a disjunction whose first part fails the second holds
or_second : (a b : Bool) → (a || b) ≡ true → a ≡ false → b ≡ true
or_second true b h e = absurd (true≢false e)
or_second false b h e = h

module _ (t : List ℕ) (r : ℕ) where
  pub under_seen : is_under_seen t r ≡ true → seen_of t r ≡ 1 → seen_of t (parent_of t r) ≡ 1
  unfolding is_under_seen
  under_seen h e =
      eqb-true (seen_of t (parent_of t r)) 1
      (or_second (eqb (seen_of t r) 0) (eqb (seen_of t (parent_of t r)) 1) h (ne_eqb (seen_of t r) 0 (λ z. omega arith)))

  pub seen_under : seen_of t r ≤ 1 → (seen_of t r ≡ 1 → seen_of t (parent_of t r) ≡ 1) → is_under_seen t r ≡ true
  unfolding is_under_seen
  seen_under l f = go (ℕ_discrete (seen_of t r) 0)
    where
      go : Dec (seen_of t r ≡ 0) → (eqb (seen_of t r) 0 || eqb (seen_of t (parent_of t r)) 1) ≡ true
      go (yes z) = simp (eq-eqb (seen_of t r) 0 z)
      go (no n) = simp (ne_eqb (seen_of t r) 0 n, eq-eqb (seen_of t (parent_of t r)) 1 (f (omega arith)))

  -- flags are 0 or 1
  pub seen_flag : are_flags (node_at t r) ≡ true → seen_of t r ≤ 1
  seen_flag h =
      let p = (and-eq-true_iff (leb (seen_of t r) 1 && leb (not_bool_of t r) 1) (leb (blocked_of t r) 1)).0 h in
      leb-true (seen_of t r) 1 ((and-eq-true_iff (leb (seen_of t r) 1) (leb (not_bool_of t r) 1)).0 p.0).0

  -- so a record is under a seen one, if it is seen, just where its flag is not above its parent's
  pub under_seen_le : is_record (node_at t r) ≡ true → is_under_seen t r ≡ true → seen_of t r ≤ seen_of t (parent_of t r)
  under_seen_le f h = go (ℕ_discrete (seen_of t r) 1)
    where
      go : Dec (seen_of t r ≡ 1) → seen_of t r ≤ seen_of t (parent_of t r)
      go (yes e) = let p = under_seen h e in omega arith
      go (no n) = let l = seen_flag (fact_parts (node_at t r) f).first in omega arith

pub le_under_seen : (t : List ℕ) (r : ℕ) → is_record (node_at t (parent_of t r)) ≡ true → seen_of t r ≤ seen_of t (parent_of t r) → is_under_seen t r ≡ true
le_under_seen t r f h =
    let l = seen_flag t (parent_of t r) (fact_parts (node_at t (parent_of t r)) f).first in
    seen_under t r (omega arith) (λ e. omega arith)

-- zero beyond used, number by number and record by record
module _ (t : List ℕ) (u N : ℕ) (len : length t ≡ N * record_width) where
  pub zero_blank : ZeroFrom t (u * record_width) → (r : ℕ) → u < r → r ≤ N → Blank t r
  unfolding fld
  zero_blank Z r h k = record { zeros = λ f l. Z ((r - 1) * record_width + f) (omega arith) (omega arith) }

  pub blank_zero : ((r : ℕ) → u < r → r ≤ N → Blank t r) → ZeroFrom t (u * record_width)
  blank_zero B i h k =
      sym (column t (i / record_width) (i % record_width) i (omega arith))
      ∙ (B (suc (i / record_width)) (omega arith) (omega arith)).zeros (i % record_width) (omega arith)

module _ (t : List ℕ) (u N : ℕ) where
  module _ (S : Sound t u N) where
    pub sound_chained : Chained t u
    sound_chained = record {
      some = S.some;
      whole = let e = S.size in let m = S.most in omega arith;
      up = S.lower;
      chain = S.chain;
      placed = S.stands;
    }

    pub sound_root : is_root t ≡ true
    sound_root = root_is t S.root

    pub sound_fact : (r : ℕ) → 1 ≤ r → r ≤ u → is_record (node_at t r) ≡ true
    sound_fact r r1 ru = parts_fact (node_at t r) (record {
      first = S.flags r r1 ru;
      second = S.unseen r r1 ru;
      third = S.kind r r1 ru;
      fourth = S.confidence r r1 ru;
      fifth = S.count r r1 ru;
      sixth = S.name r r1 ru;
    })

    pub sound_records : AreRecords t u
    sound_records = record {
      fact = sound_fact;
      under_seen = λ r r1 ru. seen_under t r (seen_flag t r (S.flags r (omega arith) ru)) (S.seen_parent r r1 ru);
    }

    pub sound_zero : ZeroFrom t (u * record_width)
    sound_zero = blank_zero t u N S.size S.beyond

  -- the parts make the whole
  pub parts_sound : length t ≡ N * record_width → 1 ≤ u → u ≤ N → is_root t ≡ true → Chained t u → AreRecords t u → ZeroFrom t (u * record_width) → Sound t u N
  parts_sound len u1 uN R C A Z = record {
    size = len;
    some = u1;
    most = uN;
    beyond = zero_blank t u N len Z;
    flags = λ r r1 ru. (facts r r1 ru).first;
    lower = C.up;
    stands = C.placed;
    chain = C.chain;
    seen_parent = λ r r1 ru. under_seen t r (A.under_seen r r1 ru);
    unseen = λ r r1 ru. (facts r r1 ru).second;
    kind = λ r r1 ru. (facts r r1 ru).third;
    confidence = λ r r1 ru. (facts r r1 ru).fourth;
    count = λ r r1 ru. (facts r r1 ru).fifth;
    name = λ r r1 ru. (facts r r1 ru).sixth;
    root = is_root_lem t R;
  }
    where
      facts : (r : ℕ) → 1 ≤ r → r ≤ u → Six (are_flags (node_at t r)) (is_bare_unseen (node_at t r)) (is_kind (node_at t r)) (is_confidence (node_at t r)) (is_count (node_at t r)) (is_named (node_at t r))
      facts r r1 ru = fact_parts (node_at t r) (A.fact r r1 ru)
