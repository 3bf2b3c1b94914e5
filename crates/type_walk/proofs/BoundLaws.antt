-- How large the codes ahead are.
use Prim.Native.Nat.{ℕ, suc, ◌+◌, ◌≤◌}
use mathlib.Core.Path.{◌≡◌, refl, ap}
use mathlib.Core.Bool.{Bool, true, false, cond, ◌&&◌, ◌||◌}
use mathlib.Core.List.{List}
use native.Mathlib.Omega.{arith}
use lib.Dec.{eqb, leb}
use borrow.Author.Tests.{eqb-true}
use Rattle.std.specs.Prelude.{Option, None, Some}
use Rattle.std.specs.Option.{ForSome}
use Rattle.limits.specs.Codes as code
use Rattle.limits.specs.Limits.{word_bytes, kind_dynamic, kind_array}
use Rattle.names.specs.Elementary.{is_name}
use Rattle.names.proofs.Codes.{name_small}
use Rattle.facts.specs.State.{Node, node_of}
use Rattle.facts.specs.Checks.{is_record}
use Rattle.facts.proofs.Whole.{fact_parts}
use Rattle.list.specs.Seen.{children_in, is_empty, is_lone_kindless, last_word}
use Rattle.list.specs.Types.{name_holds, end_key}
use Rattle.type_walk.specs.declared.Plan.{Plan}
use Rattle.type_walk.specs.Plan.{plan, word_code, tuple_code, open_plan, kind_plan, plan_of}

-- the codes are no larger than a tuple's of the words that follow, which begin with the first or the second
pub record Bounded (p : Plan) : Type 0 where
  pub first : ForSome p.first (λ c. c ≤ code.tuple + p.words)
  pub second : ForSome p.second (λ c. c ≤ code.tuple + p.words)
  pub start : p.start ≤ 1

-- a code, 0 without one
abbrev size_of : Option ℕ → ℕ
size_of None = 0
size_of (Some c) = c

either : (b : Bool) (p q : Plan) → Bounded p → Bounded q → Bounded (cond b p q)
either true p q f g = f
either false p q f g = g

-- of codes that are so small
of_small : (m : ℕ) (f : Option ℕ) → size_of f ≤ m → ForSome f (λ c. c ≤ m)
of_small m f h c e = let q = ap size_of e in omega arith

small : (f g : Option ℕ) (w n : ℕ) → size_of f ≤ code.tuple + n → size_of g ≤ code.tuple + n → w ≤ 1 → Bounded (plan f g w n)
small f g w n a b c = record { first = of_small (code.tuple + n) f a; second = of_small (code.tuple + n) g b; start = c }

tuple_bound : (n : ℕ) → size_of (tuple_code n) ≤ code.tuple + n
tuple_bound n = go (leb 2 n)
  where
    go : (b : Bool) → size_of (cond b (Some (code.tuple + n)) None) ≤ code.tuple + n
    go true = omega arith
    go false = omega arith

pub name_bound : (n : Node) → is_record n ≡ true → n.name ≤ 3032
name_bound n h = go (eqb n.name code.no_name) refl (fact_parts n h).sixth
  where
    go : (b : Bool) → eqb n.name code.no_name ≡ b → b || is_name n.name ≡ true → n.name ≤ 3032
    go true e q = let z = eqb-true n.name code.no_name e in omega arith
    go false e q = name_small n.name q

module _ (s : List Node) where
  bounded_open : (kind : ℕ) (childless lone : Bool) (end last : ℕ) → Bounded (open_plan kind childless lone end last)
  unfolding open_plan
  bounded_open kind childless lone end last =
      either (eqb kind kind_dynamic && eqb end 0 && childless) _ _ (small (Some code.bytes) None 0 0 (omega arith) (omega arith) (omega arith))
      (either (eqb kind kind_dynamic && eqb end word_bytes && childless) _ _ (small (Some code.array) (Some word_code) 0 0 (omega arith) (omega arith) (omega arith))
      (either (eqb kind kind_dynamic && eqb end word_bytes && lone) _ _ (small (Some code.array) None 1 1 (omega arith) (omega arith) (omega arith))
      (small (tuple_code (suc last)) None 0 (suc last) (tuple_bound (suc last)) (omega arith) (omega arith))))

  pub bounded_plan : (r : ℕ) → is_record (node_of s r) ≡ true → Bounded (plan_of s r)
  unfolding plan_of kind_plan
  bounded_plan r F =
      let n = name_bound (node_of s r) F in
      either (name_holds (node_of s r) (is_empty (children_in s r))) _ _ (small (Some (node_of s r).name) None 0 0 (omega arith) (omega arith) (omega arith))
      (either (eqb (node_of s r).kind kind_array) _ _ (small (Some code.array) (tuple_code (last_word s r)) 1 (last_word s r) (omega arith) (tuple_bound (last_word s r)) (omega arith))
      (bounded_open (node_of s r).kind (is_empty (children_in s r)) (is_lone_kindless s (children_in s r)) (end_key s r) (last_word s r)))
