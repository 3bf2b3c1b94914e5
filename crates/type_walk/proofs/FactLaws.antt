-- What stands ahead of a word's codes, stored at once or by a plan.
use Prim.Native.Nat.{ℕ, ◌+◌, ◌^◌, ◌≤◌, ◌<◌}
use mathlib.Core.Path.{◌≡◌, refl, sym, ap, ◌∙◌}
use mathlib.Core.Bool.{true}
use mathlib.Core.List.{List, ◌++◌}
use native.Mathlib.Omega.{arith}
use native.Mathlib.Nat.{add-zero}
use lib.ListN.{length, set, length-set, length-append}
use lib.Seq.{sets, length-sets}
use Rattle.std.specs.Prelude.{Option, None, Some}
use Rattle.std.specs.Option.{ForSome}
use Rattle.limits.specs.Codes as code
use Rattle.limits.specs.Limits.{types_room}
use Rattle.spell.proofs.Stores.{sets_both}
use Rattle.types.specs.Codes.{codes, all_codes}
use Rattle.facts.specs.Sound.{Sound}
use Rattle.facts.specs.State.{nodes, node_of}
use Rattle.facts.specs.Checks.{is_record}
use Rattle.facts.proofs.Encode.{length_nodes}
use Rattle.facts.proofs.States.{sound_formed}
use Rattle.paths.proofs.Frame.{sound_shaped}
use Rattle.paths.proofs.Reach.{shaped_ordered}
use Rattle.list.specs.Types.{words_with, word_types}
use Rattle.type_walk.specs.declared.Plan.{Plan}
use Rattle.type_walk.specs.declared.Rest.{Rest}
use Rattle.type_walk.specs.Plan.{plan_of, word_type, leaf_code, leads}
use Rattle.type_walk.specs.Walk.{Led}
use Rattle.type_walk.proofs.PlanLaws.{codes_plan}
use Rattle.type_walk.proofs.BoundLaws.{Bounded, bounded_plan}
use Rattle.type_walk.proofs.LeafLaws.{leaf_none, leaf_codes}
use Rattle.type_walk.proofs.WriteLaws.{words_codes}

module _ {t : List ℕ} {u N c : ℕ} (S : Sound t u N) (c1 : 1 ≤ c) (cu : c ≤ u) (types : List ℕ) (at : ℕ)
    (room : at + length (codes (word_type (nodes t u) c)) ≤ types_room) (long : types_room ≤ length types) where
  cn : c ≤ length (nodes t u)
  cn = let l = length_nodes t u in omega arith

  fact_is : is_record (node_of (nodes t u) c) ≡ true
  fact_is = (sound_formed t u N S).fact c c1 cn

  module _ {o : Option ℕ} (e : o ≡ leaf_code (nodes t u) c) where
    -- the one code x
    module _ {x : ℕ} (n : o ≡ Some x) where
      leaf_length : length (codes (word_type (nodes t u) c)) ≡ 1
      leaf_length = ap (λ (cs : List ℕ). length cs) (leaf_codes t u N c S c1 cu x (sym n ∙ e))

      pub leaf_fits : at + 1 ≤ types_room
      leaf_fits = let l = leaf_length in omega arith

      pub leaf_led : {a : Rest} → a.start ≡ 0 → a.words ≡ 0 → a.to ≡ at + 1 → Led (nodes t u) c types at (set types at x) a
      unfolding words_with all_codes
      leaf_led {a} s w q = record {
        start = omega arith;
        size = length-set types at x;
        left = rw (w, leaf_codes t u N c S c1 cu x (sym n ∙ e)) refl;
        ends = rw (w, leaf_codes t u N c S c1 cu x (sym n ∙ e)) (add-zero a.to ∙ q);
      }

    -- the plan p
    module _ (z : o ≡ None) {p : Plan} (f : p ≡ plan_of (nodes t u) c) where
      -- the codes of the words that follow
      abbrev inner : List ℕ
      inner = all_codes (word_types (nodes t u) c p.start p.words)

      plan_is : codes (word_type (nodes t u) c) ≡ leads p ++ inner
      plan_is =
          ap codes (leaf_none t u N c S c1 cu (sym z ∙ e)) ∙ codes_plan (nodes t u) (shaped_ordered t u N (sound_shaped t u N S)) c c1 cn fact_is
          ∙ ap (λ (y : Plan). leads y ++ all_codes (word_types (nodes t u) c y.start y.words)) (sym f)

      plan_length : length (codes (word_type (nodes t u) c)) ≡ length (leads p) + length inner
      plan_length = ap (λ (cs : List ℕ). length cs) plan_is ∙ length-append (leads p) inner

      bounded : Bounded p
      bounded = rw f (bounded_plan (nodes t u) c fact_is)

      pub plan_fits : at + length (leads p) ≤ length types
      plan_fits = let l = plan_length in omega arith

      words_few : code.tuple + p.words < 2 ^ 16
      words_few = let l = plan_length in let h = words_codes (nodes t u) c p.start p.words in omega arith

      pub first_fits : ForSome p.first (λ y. y < 2 ^ 16)
      first_fits y q = let g = bounded.first y q in let h = words_few in omega arith

      pub second_fits : ForSome p.second (λ y. y < 2 ^ 16)
      second_fits y q = let g = bounded.second y q in let h = words_few in omega arith

      pub plan_led : {types₁ : List ℕ} {a : Rest} → types₁ ≡ sets types at (leads p) → a.to ≡ at + length (leads p) → a.start ≡ p.start → a.words ≡ p.words
          → Led (nodes t u) c types at types₁ a
      plan_led {types₁} {a} d q s w =
          let g = bounded.start in
          let o : all_codes (word_types (nodes t u) c a.start a.words) ≡ inner = λ i. all_codes (word_types (nodes t u) c (s i) (w i)) in
          record {
            start = omega arith;
            size = ap (λ (l : List ℕ). length l) d ∙ length-sets types at (leads p);
            left = ap (sets types₁ a.to) o ∙ sets_both types types₁ _ at a.to (leads p) inner d q refl ∙ ap (sets types at) (sym plan_is);
            ends = let l = plan_length in let m = ap (λ (cs : List ℕ). length cs) o in omega arith;
          }
