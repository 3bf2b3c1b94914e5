-- Which paths the operations on names, marks and hints add: one at most, the stated one, and no path moves.
use Prim.Native.Nat.{ℕ, max}
use mathlib.Core.Path.{◌≡◌, refl, ap}
use mathlib.Core.Bool.{Bool, true, false, cond, not, ◌&&◌, ◌||◌, and-eq-true_iff}
use mathlib.Core.List.{List}
use lib.Dec.{eqb}
use borrow.Author.Tests.{not-true, eqb-false}
use Rattle.limits.specs.Codes as code
use Rattle.limits.specs.Fields as field
use Rattle.limits.specs.Confidences.{by_range}
use Rattle.facts.specs.State.{Node, node_of}
use Rattle.paths.specs.Update.{update}
use Rattle.paths.specs.Find.{find_in, get_mut}
use Rattle.paths.specs.Make.{ensure, get_or_create}
use Rattle.paths.specs.Adds.{SamePaths, AddsPath}
use Rattle.paths.proofs.Alike.{Alike, alike_refl, alike_is, alike_trans, alike_cond, alike_update, alike_twice}
use Rattle.paths.proofs.Alike.{alike_create, alike_ensure}
use Rattle.paths.proofs.Lookups.{ensure_there}
use Rattle.paths.proofs.Adds.{alike_same, alike_adds}
use Rattle.marks.specs.Names.{is_range, drop_name, give_name, is_not_bool, name_at, name_made, set_tname, insert_not_bool}
use Rattle.marks.specs.Names.{drop_bool_at, drop_bool, mark_not_bool}
use Rattle.marks.specs.Hints.{clear_at, clear_range_hint}
use Rattle.marks.proofs.NameLaws.{stops, keeps, bars}

-- a path that is marked or has a range name is there
there : (r : ℕ) (b : Bool) → (not (eqb r 0) && b) ≡ true → r ≡ 0 → ⊥
there r b e = eqb-false r 0 (not-true (eqb r 0) ((and-eq-true_iff (not (eqb r 0)) b).0 e).0)

module _ (s : List Node) (p k : ℕ) where
  pub marked_there : is_not_bool s p k ≡ true → find_in s p k ≡ 0 → ⊥
  marked_there e = there (find_in s p k) (eqb (node_of s (find_in s p k)).not_bool 1) e

-- a name at a node moves no path
pub alike_name : (s : List Node) (r name confidence : ℕ) → Alike s (name_at s r name confidence)
alike_name s r name confidence =
    alike_cond s (stops s r confidence) s (cond (keeps s r confidence) s (give_name s r name confidence)) (alike_refl s)
    (alike_cond s (keeps s r confidence) s (give_name s r name confidence) (alike_refl s) (alike_twice s r field.name name field.confidence confidence))

-- where the name stops at a not-bool mark the path is there
pub alike_set_tname : (s : List Node) (p k name confidence : ℕ) → Alike (ensure s p k).state (set_tname s p k name confidence)
unfolding set_tname
alike_set_tname s p k name confidence = go (bars s p k name confidence) refl
  where
    go : (b : Bool) → bars s p k name confidence ≡ b → Alike (ensure s p k).state (cond b s (name_made (get_or_create s p k) name confidence))
    go true e =
        let m = ((and-eq-true_iff (eqb name code.bool || eqb confidence by_range) (is_not_bool s p k)).0 e).1 in
        alike_is (ensure s p k).state s (ap (λ m. m.state) (ensure_there s p k (marked_there s p k m)))
    go false e =
        alike_trans (ensure s p k).state (get_or_create s p k).state (name_made (get_or_create s p k) name confidence) (alike_create s p k)
        (alike_name (get_or_create s p k).state (get_or_create s p k).number name confidence)

pub alike_insert_not_bool : (s : List Node) (p k : ℕ) → Alike (ensure s p k).state (insert_not_bool s p k)
unfolding insert_not_bool
alike_insert_not_bool s p k = alike_update (ensure s p k).state (ensure s p k).number field.not_bool 1

pub alike_drop_name : (s : List Node) (r : ℕ) → Alike s (drop_name s r)
alike_drop_name s r = alike_twice s r field.name code.no_name field.confidence 0

pub alike_drop_bool : (s : List Node) (p k : ℕ) → Alike s (drop_bool s p k)
alike_drop_bool s p k =
    alike_cond s (eqb (get_mut s p k) 0) s (drop_bool_at s (get_mut s p k)) (alike_refl s)
    (alike_cond s (eqb (node_of s (get_mut s p k)).name code.bool || is_range (node_of s (get_mut s p k))) (drop_name s (get_mut s p k)) s
    (alike_drop_name s (get_mut s p k)) (alike_refl s))

pub alike_mark_not_bool : (s : List Node) (p k : ℕ) → Alike (ensure s p k).state (mark_not_bool s p k)
unfolding mark_not_bool
alike_mark_not_bool s p k =
    alike_trans (ensure s p k).state (ensure (drop_bool s p k) p k).state (insert_not_bool (drop_bool s p k) p k)
    (alike_ensure s (drop_bool s p k) p k (alike_drop_bool s p k)) (alike_insert_not_bool (drop_bool s p k) p k)

pub alike_clear : (s : List Node) (r : ℕ) (block : Bool) → Alike s (clear_at s r block)
alike_clear s r block =
    let s' = update s r field.blocked (max (node_of s r).blocked (cond block 1 0)) in
    let A = alike_update s r field.blocked (max (node_of s r).blocked (cond block 1 0)) in
    alike_cond s (is_range (node_of s r)) (drop_name s' r) s' (alike_trans s s' (drop_name s' r) A (alike_drop_name s' r)) A

pub alike_clear_range_hint : (s : List Node) (p k : ℕ) (block : Bool) → Alike s (clear_range_hint s p k block)
unfolding clear_range_hint
alike_clear_range_hint s p k block =
    alike_cond s (eqb (get_mut s p k) 0) s (clear_at s (get_mut s p k) block) (alike_refl s) (alike_clear s (get_mut s p k) block)

-- numbers, paths and lookups, by operation
module _ (s : List Node) (p k : ℕ) where
  pub adds_set_tname : (name confidence : ℕ) → AddsPath s p k (set_tname s p k name confidence)
  adds_set_tname name confidence = alike_adds s p k (set_tname s p k name confidence) (alike_set_tname s p k name confidence)

  pub adds_insert_not_bool : AddsPath s p k (insert_not_bool s p k)
  adds_insert_not_bool = alike_adds s p k (insert_not_bool s p k) (alike_insert_not_bool s p k)

  pub adds_mark_not_bool : AddsPath s p k (mark_not_bool s p k)
  adds_mark_not_bool = alike_adds s p k (mark_not_bool s p k) (alike_mark_not_bool s p k)

  pub same_clear_range_hint : (block : Bool) → SamePaths s (clear_range_hint s p k block)
  same_clear_range_hint block = alike_same s (clear_range_hint s p k block) (alike_clear_range_hint s p k block)
