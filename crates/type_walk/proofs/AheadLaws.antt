-- What stands ahead of a fact's words, line by line of the code.
use Prim.Native.Nat.{ℕ, ◌*◌, ◌^◌, ◌≤◌, ◌<◌, max}
use mathlib.Core.Path.{◌≡◌, refl, sym, ◌∙◌}
use mathlib.Core.Bool.{true, ◌&&◌}
use mathlib.Core.List.{List}
use native.Mathlib.Omega.{arith}
use lib.Dec.{eqb}
use borrow.Author.Tests.{ne_eqb}
use Rattle.limits.specs.Limits.{word_bytes, kind_array, dynamic_count_max}
use Rattle.facts.specs.Sound.{Sound}
use Rattle.facts.specs.State.{nodes, node_of}
use Rattle.facts.specs.Checks.{is_record}
use Rattle.facts.proofs.Encode.{length_nodes}
use Rattle.facts.proofs.States.{sound_formed}
use Rattle.list.specs.Seen.{children_in, last_word}
use Rattle.list.specs.Looks.{Looked}
use Rattle.list.specs.Types.{end_key}
use Rattle.list.specs.declared.Children.{Children}
use Rattle.list.proofs.ChildrenLaws.{empty_is, lone_is}
use Rattle.type_walk.specs.declared.Plan.{Plan}
use Rattle.type_walk.specs.Plan.{open_plan, kind_plan}
use Rattle.type_walk.proofs.PlanLaws.{count_most}

module _ (t : List ℕ) (u N r : ℕ) (S : Sound t u N) (r1 : 1 ≤ r) (ru : r ≤ u) where
  is_record_lem : is_record (node_of (nodes t u) r) ≡ true
  is_record_lem = (sound_formed t u N S).fact r r1 (let e = length_nodes t u in omega arith)

  -- each key has 32 bits, and so has the last
  pub last_most : (kids : Children) → Looked (nodes t u) r kids → kids.last_key < 2 ^ 32 → last_word (nodes t u) r ≤ dynamic_count_max
  unfolding last_word
  last_most kids L h = let c = count_most (node_of (nodes t u) r) is_record_lem in let e = L.last in omega arith

  pub kind_open : (kids : Children) (k n l : ℕ) (p : Plan) → Looked (nodes t u) r kids → k ≡ (node_of (nodes t u) r).kind → (k ≡ kind_array → ⊥)
      → n ≡ (node_of (nodes t u) r).count → l ≡ last_word (nodes t u) r
      → p ≡ open_plan k (eqb kids.count 0) (eqb kids.count 1 && eqb kids.last_kind 0) (max kids.last_key (word_bytes * n)) l
      → p ≡ kind_plan (nodes t u) r
  unfolding kind_plan end_key
  kind_open kids k n l p L e a c q d =
      d ∙ sym (rw (← e, ← c, ne_eqb k kind_array a, ← q, ← L.last, empty_is (children_in (nodes t u) r), lone_is (nodes t u) (children_in (nodes t u) r), ← L.count, ← L.kind) refl)
