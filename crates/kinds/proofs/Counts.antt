-- Which paths the operations on kinds and the fill add: none, and those of the first words; no path moves.
use Prim.Native.Nat.{ℕ, zero, suc, ◌*◌, ◌<◌}
use mathlib.Core.Path.{◌≡◌, refl, sym, ap, ◌∙◌}
use mathlib.Core.Bool.{cond, ◌&&◌}
use mathlib.Core.Logic.{◌⊎◌, inl, inr}
use mathlib.Core.List.{List}
use native.Mathlib.Omega.{arith}
use native.Mathlib.Nat.{eq-or-lt_of_le}
use lib.Dec.{eqb, ltb}
use lib.ListN.{length, take}
use lib.Seq.{take_all, take-take}
use Rattle.limits.specs.Limits.{word_bytes, kind_dynamic, kind_array}
use Rattle.limits.specs.Fields as field
use Rattle.facts.specs.State.{Node, node_of, paths}
use Rattle.paths.specs.Find.{find_in}
use Rattle.paths.specs.Make.{ensure, make_seen, get_or_create}
use Rattle.paths.specs.Adds.{SamePaths}
use Rattle.paths.proofs.Kept.{length_paths, paths_create}
use Rattle.paths.proofs.Reach.{ensure_range}
use Rattle.paths.proofs.Alike.{Alike, alike_refl, alike_trans, alike_cond, alike_twice, alike_seen}
use Rattle.paths.proofs.Lookups.{find_create, find_created}
use Rattle.paths.proofs.Adds.{alike_same}
use Rattle.kinds.specs.Kinds.{give_kind, dynamic_at, array_at, set_dynamic, set_array}
use Rattle.kinds.specs.Fill.{fill}
use Rattle.kinds.proofs.FillLaws.{length_fill}

-- a kind set moves no path
module _ (s : List Node) (r count : ℕ) where
  alike_dynamic : Alike s (dynamic_at s r count)
  alike_dynamic =
      let t = cond (eqb (node_of s r).kind kind_dynamic && ltb count (node_of s r).count) s (give_kind s r kind_dynamic count) in
      alike_cond s (eqb (node_of s r).kind kind_array) s t (alike_refl s)
      (alike_cond s (eqb (node_of s r).kind kind_dynamic && ltb count (node_of s r).count) s (give_kind s r kind_dynamic count) (alike_refl s)
      (alike_twice s r field.kind kind_dynamic field.count count))

  alike_array : Alike s (array_at s r count)
  alike_array =
      alike_cond s (eqb (node_of s r).kind kind_array && ltb count (node_of s r).count) s (give_kind s r kind_array count) (alike_refl s)
      (alike_twice s r field.kind kind_array field.count count)

module _ (s : List Node) (r count : ℕ) where
  pub alike_set_dynamic : Alike s (set_dynamic s r count)
  unfolding set_dynamic
  alike_set_dynamic =
      alike_cond s (eqb r 1) s (dynamic_at (make_seen s r) r count) (alike_refl s)
      (alike_trans s (make_seen s r) (dynamic_at (make_seen s r) r count) (alike_seen s r) (alike_dynamic (make_seen s r) r count))

  pub alike_set_array : Alike s (set_array s r count)
  unfolding set_array
  alike_set_array =
      alike_cond s (eqb r 1) s (array_at (make_seen s r) r count) (alike_refl s)
      (alike_trans s (make_seen s r) (array_at (make_seen s r) r count) (alike_seen s r) (alike_array (make_seen s r) r count))

  -- numbers, paths and lookups
  pub same_set_dynamic : SamePaths s (set_dynamic s r count)
  same_set_dynamic = alike_same s (set_dynamic s r count) alike_set_dynamic

  pub same_set_array : SamePaths s (set_array s r count)
  same_set_array = alike_same s (set_array s r count) alike_set_array

-- the fill moves no path
pub paths_fill : (s : List Node) (words : ℕ) → take (length s) (paths (fill s words)) ≡ paths s
unfolding fill
paths_fill s zero = take_all (length s) (paths s) (let e = length_paths s in omega arith)
paths_fill s (suc words) =
    let t = (get_or_create (fill s words) 1 (word_bytes * words)).state in
    let l = length_fill s words in
    sym (take-take (length s) (length (fill s words)) (paths t) (omega arith))
    ∙ ap (take (length s)) (paths_create (fill s words) 1 (word_bytes * words)) ∙ paths_fill s words

-- a path that is no filled word's is found as before
pub find_fill_else : (s : List Node) (words p k : ℕ) → ((i : ℕ) → i < words → 1 ≡ p → word_bytes * i ≡ k → ⊥)
    → find_in (fill s words) p k ≡ find_in s p k
unfolding fill
find_fill_else s zero p k n = refl
find_fill_else s (suc words) p k n =
    find_create (fill s words) 1 (word_bytes * words) p k (n words (omega arith)) ∙ find_fill_else s words p k (λ i h. n i (omega arith))

-- and each word's is there
pub find_filled : (s : List Node) (words i : ℕ) → i < words → find_in (fill s words) 1 (word_bytes * i) ≡ 0 → ⊥
unfolding fill get_or_create
find_filled s zero i h z = absurd (omega arith)
find_filled s (suc words) i h z = go (find_filled s words i) (eq-or-lt_of_le h)
  where
    go : (i < words → find_in (fill s words) 1 (word_bytes * i) ≡ 0 → ⊥) → (suc i ≡ suc words) ⊎ (suc i < suc words) → ⊥
    go f (inl e) =
        let q : i ≡ words = omega arith in
        let c = find_created (fill s words) 1 (word_bytes * words) in
        let w : find_in (get_or_create (fill s words) 1 (word_bytes * words)).state 1 (word_bytes * words) ≡ 0 =
        ap (λ (j : ℕ). find_in (get_or_create (fill s words) 1 (word_bytes * words)).state 1 (word_bytes * j)) (sym q) ∙ z in
        let r = (ensure_range (fill s words) 1 (word_bytes * words)).0 in
        let d : (get_or_create (fill s words) 1 (word_bytes * words)).number ≡ 0 = sym c ∙ w in
        let g : (ensure (fill s words) 1 (word_bytes * words)).number ≡ 0 = d in
        omega arith
    go f (inr l) = f (omega arith) (sym (find_create (fill s words) 1 (word_bytes * words) 1 (word_bytes * i) (λ _ e. omega arith)) ∙ z)
