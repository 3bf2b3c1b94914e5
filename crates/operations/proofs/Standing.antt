-- The nodes that stand before an operation: it leaves the key, the parent and so the depth of each.
use Prim.Native.Nat.{ℕ, zero, suc, ◌≤◌}
use mathlib.Core.Path.{◌≡◌, refl, ap, ◌∙◌}
use mathlib.Core.Bool.{Bool, true, false, cond}
use mathlib.Core.List.{List}
use native.Mathlib.Omega.{arith}
use lib.Dec.{leb}
use lib.ListN.{length}
use borrow.Author.Tests.{leb-false}
use Rattle.facts.specs.State.{Node, node_of}
use Rattle.paths.specs.Make.{ensure}
use Rattle.paths.specs.Depth.{depth_up, depth_of}
use Rattle.paths.specs.Order.{Ordered}
use Rattle.paths.proofs.Reach.{ensure_node}
use Rattle.paths.proofs.Alike.{Alike, alike_create}
use Rattle.marks.proofs.Counts.{alike_set_tname, alike_insert_not_bool, alike_mark_not_bool}
use Rattle.kinds.proofs.Counts.{alike_set_dynamic, alike_set_array}
use Rattle.operations.specs.declared.Operation.{Operation}
use Rattle.operations.specs.declared.Operation.TheVariants.{Nothing, ClearRangeHint, ClearRangeHints}
use Rattle.operations.specs.declared.Operation.TheVariants.{MarkNotBool, InsertNotBool, GetOrCreate}
use Rattle.operations.specs.declared.Operation.TheVariants.{SetTname, SetDynamic, SetArray}
use Rattle.operations.specs.Run.{run}
use Rattle.operations.proofs.Clears.{Clears, clear_key, clear_parent}

-- the key and the parent of a node
pub record SamePlace (m n : Node) : Type 0 where
  pub key : m.key ≡ n.key
  pub parent : m.parent ≡ n.parent

module _ (s : List Node) (q : ℕ) (q1 : 1 ≤ q) (h : q ≤ length s) where
  at_made : (p k : ℕ) (s' : List Node) → Alike (ensure s p k).state s' → SamePlace (node_of s' q) (node_of s q)
  at_made p k s' A = record {
    key = A.key q ∙ ap (λ (n : Node). n.key) (ensure_node s p k q q1 h);
    parent = A.parent q ∙ ap (λ (n : Node). n.parent) (ensure_node s p k q q1 h);
  }

  at_cleared : (o : Operation) → Clears o → SamePlace (node_of (run s o) q) (node_of s q)
  at_cleared o C = record { key = clear_key s o C q; parent = clear_parent s o C q }

  pub run_place : (o : Operation) → SamePlace (node_of (run s o) q) (node_of s q)
  unfolding run
  run_place Nothing = record { key = refl; parent = refl }
  run_place (ClearRangeHint p k block) = at_cleared (ClearRangeHint p k block) tt
  run_place ClearRangeHints = at_cleared ClearRangeHints tt
  run_place (MarkNotBool p k) = at_made p k _ (alike_mark_not_bool s p k)
  run_place (InsertNotBool p k) = at_made p k _ (alike_insert_not_bool s p k)
  run_place (GetOrCreate p k) = at_made p k _ (alike_create s p k)
  run_place (SetTname p k name confidence) = at_made p k _ (alike_set_tname s p k name confidence)
  run_place (SetDynamic p k count) =
      at_made p k _ (alike_set_dynamic (ensure s p k).state (ensure s p k).number count)
  run_place (SetArray r count) =
      record { key = (alike_set_array s r count).key q; parent = (alike_set_array s r count).parent q }

-- a depth goes by the parents of nodes with lower numbers
depth_kept : (s s' : List Node) → Ordered s
    → ((q : ℕ) → 1 ≤ q → q ≤ length s → (node_of s' q).parent ≡ (node_of s q).parent)
    → (n r : ℕ) → 1 ≤ r → r ≤ length s → depth_up n s' r ≡ depth_up n s r
unfolding depth_up
depth_kept s s' O e zero r r1 h = refl
depth_kept s s' O e (suc n) r r1 h = go (leb r 1) refl (depth_kept s s' O e n)
  where
    go : (b : Bool) → leb r 1 ≡ b → ((q : ℕ) → 1 ≤ q → q ≤ length s → depth_up n s' q ≡ depth_up n s q)
        → cond b 0 (suc (depth_up n s' (node_of s' r).parent)) ≡ cond b 0 (suc (depth_up n s (node_of s r).parent))
    go true w f = refl
    go false w f =
        let l = leb-false r 1 w in
        let up = O.lower r (omega arith) h in
        ap suc (ap (depth_up n s') (e r r1 h) ∙ f (node_of s r).parent up.0 (omega arith))

pub run_depth : (s : List Node) (o : Operation) → Ordered s → (r : ℕ) → 1 ≤ r → r ≤ length s
    → depth_of (run s o) r ≡ depth_of s r
unfolding depth_of
run_depth s o O r r1 h = depth_kept s (run s o) O (λ q q1 hq. (run_place s q q1 hq o).parent) r r r1 h
