-- A formed state stays formed when a kind is set and when the head is filled.
use Prim.Native.Nat.{ℕ, zero, suc, ◌*◌, ◌≤◌, ◌<◌}
use mathlib.Core.Path.{◌≡◌, refl}
use mathlib.Core.Bool.{Bool, true, false, cond, ◌&&◌}
use mathlib.Core.List.{List}
use native.Mathlib.Omega.{arith}
use lib.Dec.{eqb, ltb}
use lib.ListN.{length}
use borrow.Author.Tests.{eqb-false, le-leb}
use Rattle.limits.specs.Limits.{word_bytes, kind_dynamic, kind_array, array_count_max, dynamic_count_max}
use Rattle.limits.specs.Fields as field
use Rattle.facts.specs.State.{Node, node_of}
use Rattle.facts.specs.Checks.{is_record}
use Rattle.facts.specs.Formed.{Formed}
use Rattle.facts.proofs.Whole.{fact_parts, parts_fact}
use Rattle.paths.specs.Update.{with_field}
use Rattle.paths.specs.Make.{make_seen}
use Rattle.paths.proofs.Kept.{length_seen, made_seen}
use Rattle.paths.proofs.Sounds.{formed_seen, formed_create, formed_twice, formed_cond}
use Rattle.kinds.specs.Kinds.{give_kind, dynamic_at, array_at, set_dynamic, set_array}
use Rattle.kinds.specs.Fill.{fill}

-- a fact with another kind
module _ (n : Node) (count : ℕ) (h : is_record n ≡ true) (y : n.seen ≡ 1) where
  pub dynamic_fact : count ≤ dynamic_count_max → is_record (with_field field.count count (with_field field.kind kind_dynamic n)) ≡ true
  unfolding with_field
  dynamic_fact l =
      let p = fact_parts n h in
      parts_fact (with_field field.count count (with_field field.kind kind_dynamic n)) (record {
        first = p.first;
        second = rw y refl;
        third = refl;
        fourth = p.fourth;
        fifth = le-leb count dynamic_count_max l;
        sixth = p.sixth;
      })

  pub array_fact : 1 ≤ count → count ≤ array_count_max → is_record (with_field field.count count (with_field field.kind kind_array n)) ≡ true
  unfolding with_field
  array_fact c1 c2 =
      let p = fact_parts n h in
      parts_fact (with_field field.count count (with_field field.kind kind_array n)) (record {
        first = p.first;
        second = rw y refl;
        third = refl;
        fourth = p.fourth;
        fifth = λ i. le-leb 1 count c1 i && le-leb count array_count_max c2 i;
        sixth = p.sixth;
      })

-- at a seen node other than the root
module _ (s : List Node) (r count : ℕ) (F : Formed s) (r1 : 1 < r) (rs : r ≤ length s) (y : (node_of s r).seen ≡ 1) where
  pub formed_dynamic : count ≤ dynamic_count_max → Formed (dynamic_at s r count)
  unfolding with_field
  formed_dynamic l =
      let t = cond (eqb (node_of s r).kind kind_dynamic && ltb count (node_of s r).count) s (give_kind s r kind_dynamic count) in
      formed_cond (eqb (node_of s r).kind kind_array) s t F
      (formed_cond (eqb (node_of s r).kind kind_dynamic && ltb count (node_of s r).count) s (give_kind s r kind_dynamic count) F
      (formed_twice s r F r1 rs field.kind kind_dynamic field.count count refl (dynamic_fact (node_of s r) count (F.fact r (omega arith) rs) y l)))

  pub formed_array : 1 ≤ count → count ≤ array_count_max → Formed (array_at s r count)
  unfolding with_field
  formed_array c1 c2 =
      formed_cond (eqb (node_of s r).kind kind_array && ltb count (node_of s r).count) s (give_kind s r kind_array count) F
      (formed_twice s r F r1 rs field.kind kind_array field.count count refl (array_fact (node_of s r) count (F.fact r (omega arith) rs) y c1 c2))

module _ (s : List Node) (r count : ℕ) (F : Formed s) (r1 : 1 ≤ r) (rs : r ≤ length s) where
  pub formed_set_dynamic : count ≤ dynamic_count_max → Formed (set_dynamic s r count)
  unfolding set_dynamic
  formed_set_dynamic l = go (eqb r 1) refl
    where
      go : (b : Bool) → eqb r 1 ≡ b → Formed (cond b s (dynamic_at (make_seen s r) r count))
      go true e = F
      go false e =
          let n = eqb-false r 1 e in let q = length_seen s r in
          formed_dynamic (make_seen s r) r count (formed_seen s r F rs) (omega arith) (omega arith) (made_seen s r r1 rs) l

  pub formed_set_array : 1 ≤ count → count ≤ array_count_max → Formed (set_array s r count)
  unfolding set_array
  formed_set_array c1 c2 = go (eqb r 1) refl
    where
      go : (b : Bool) → eqb r 1 ≡ b → Formed (cond b s (array_at (make_seen s r) r count))
      go true e = F
      go false e =
          let n = eqb-false r 1 e in let q = length_seen s r in
          formed_array (make_seen s r) r count (formed_seen s r F rs) (omega arith) (omega arith) (made_seen s r r1 rs) c1 c2

-- the head filled
pub formed_fill : (s : List Node) (words : ℕ) → Formed s → Formed (fill s words)
unfolding fill
formed_fill s zero F = F
formed_fill s (suc words) F =
    let G = formed_fill s words F in formed_create (fill s words) 1 (word_bytes * words) G (omega arith) G.some
