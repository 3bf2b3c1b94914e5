-- Not-bool marks: what the code's tests and calls come to, over plain numbers, tables and states.
use Prim.Native.Nat.{ℕ, ◌+◌}
use mathlib.Core.Path.{◌≡◌, refl, sym, ap, ◌∙◌}
use mathlib.Core.Bool.{Bool, true, false, cond, ◌||◌}
use mathlib.Core.List.{List, [], ◌∷◌, ◌++◌}
use native.Mathlib.Decide.{ℕ_discrete}
use lib.Dec.{eqb}
use lib.ListN.{length}
use borrow.Author.Tests.{eq-eqb, ne_eqb}
use Rattle.limits.specs.Codes as code
use Rattle.limits.specs.Fields as field
use Rattle.facts.specs.State.{Node, node_of, bare}
use Rattle.paths.specs.Update.{update}
use Rattle.paths.specs.Find.{find_in, get_mut}
use Rattle.paths.specs.Make.{Made, ensure}
use Rattle.paths.proofs.Reach.{last_node}
use Rattle.paths.proofs.Lookups.{find_update, ensure_there, ensure_new, got_none}
use Rattle.marks.specs.Names.{is_range, drop_name, mark_made, insert_not_bool, drop_bool_at, drop_bool, mark_not_bool}
use Rattle.marks.proofs.NameLaws.{case_yes, case_no}

-- is the node's name a bool or a range name?
abbrev loose : Node → Bool
loose n = eqb n.name code.bool || is_range n

-- what is done at the record of a path that has been made: dropped only where it is seen
abbrev pub drop_seen : List Node → ℕ → List Node
drop_seen s r = cond (eqb (node_of s r).seen 1) (drop_bool_at s r) s

-- a path is found as before
find_drop_name : (s : List Node) (r p k : ℕ) → find_in (drop_name s r) p k ≡ find_in s p k
find_drop_name s r p k = find_update (update s r field.name code.no_name) r field.confidence 0 p k ∙ find_update s r field.name code.no_name p k

find_drop_bool : (s : List Node) (p k : ℕ) → find_in (drop_bool s p k) p k ≡ find_in s p k
find_drop_bool s p k = go (eqb (get_mut s p k) 0) (loose (node_of s (get_mut s p k)))
  where
    go : (b c : Bool) → find_in (cond b s (cond c (drop_name s (get_mut s p k)) s)) p k ≡ find_in s p k
    go true c = refl
    go false true = find_drop_name s (get_mut s p k) p k
    go false false = refl

-- a path made, its name dropped and it marked
abbrev pub dropped_made : Made → List Node
dropped_made m = update (drop_seen m.state m.number) m.number field.not_bool 1

module _ (s : List Node) (p k : ℕ) where
  -- a new path is unseen
  new_marked : find_in s p k ≡ 0 → dropped_made (ensure s p k) ≡ mark_not_bool s p k
  unfolding mark_not_bool insert_not_bool
  new_marked z =
      let s' = s ++ bare p k ∷ [] in
      let unseen : eqb (node_of s' (length s + 1)).seen 1 ≡ false = ap (λ (n : Node). eqb n.seen 1) (last_node s (bare p k)) in
      let kept : s' ≡ drop_seen s' (length s + 1) = case_no (eqb (node_of s' (length s + 1)).seen 1) (drop_bool_at s' (length s + 1)) s' unseen in
      let none : s ≡ drop_bool s p k = case_yes (eqb (get_mut s p k) 0) s (drop_bool_at s (get_mut s p k)) (eq-eqb (get_mut s p k) 0 (got_none s p k z)) in
      ap dropped_made (ensure_new s p k z) ∙ ap (λ (x : List Node). update x (length s + 1) field.not_bool 1) (sym kept)
      ∙ ap mark_made (sym (ensure_new s p k z)) ∙ ap (λ (x : List Node). mark_made (ensure x p k)) none

  drop_seen_is : (find_in s p k ≡ 0 → ⊥) → drop_seen s (find_in s p k) ≡ drop_bool s p k
  unfolding get_mut
  drop_seen_is n = go (eqb (node_of s (find_in s p k)).seen 1)
    where
      go : (b : Bool) → cond b (drop_bool_at s (find_in s p k)) s ≡ cond (eqb (cond b (find_in s p k) 0) 0) s (drop_bool_at s (cond b (find_in s p k) 0))
      go true = case_no (eqb (find_in s p k) 0) s (drop_bool_at s (find_in s p k)) (ne_eqb (find_in s p k) 0 n)
      go false = refl

  old_marked : (find_in s p k ≡ 0 → ⊥) → dropped_made (ensure s p k) ≡ mark_not_bool s p k
  unfolding mark_not_bool insert_not_bool
  old_marked n =
      let e = find_drop_bool s p k in
      ap dropped_made (ensure_there s p k n) ∙ (λ i. update (drop_seen_is n i) (sym e i) field.not_bool 1)
      ∙ ap mark_made (sym (ensure_there (drop_bool s p k) p k (λ z. n (sym e ∙ z))))

  pub made_marked : dropped_made (ensure s p k) ≡ mark_not_bool s p k
  made_marked = go (ℕ_discrete (find_in s p k) 0)
    where
      go : Dec (find_in s p k ≡ 0) → dropped_made (ensure s p k) ≡ mark_not_bool s p k
      go (yes z) = new_marked z
      go (no n) = old_marked n
