-- None, over or granted: what the answer and the type slice are in each case.
use Rattle.std.proofs.Common.{Some, None}
use Rattle.std.proofs.lemmas.Option.{none-some, cond_some}
use Prim.Native.Nat.{ℕ, suc, ◌+◌, ◌-◌, ◌*◌, ◌≤◌}
use mathlib.Core.Path.{◌≡◌, refl, sym, ap, ◌∙◌}
use mathlib.Core.Bool.{Bool, true, false, cond, and-eq-true_iff}
use mathlib.Core.List.{List, ◌++◌}
use native.Mathlib.Omega.{arith}
use native.Mathlib.Nat.{zero-add}
use native.Mathlib.Numerals.{add-one}
use lib.Dec.{leb}
use lib.ListN.{length, drop}
use lib.Seq.{sets, sets-eq}
use borrow.Author.Tests.{leb-true}
use Rattle.limits.specs.Limits.{types_room, budget_max, word_bytes}
use Rattle.types.specs.Codes.{all_codes}
use Rattle.types.proofs.Sizes.{count_codes}
use Rattle.facts.specs.Formed.{Formed}
use Rattle.facts.specs.State.{Node}
use Rattle.list.specs.Seen.{children_in, is_empty, last_word}
use Rattle.list.specs.Budget.{shallow, spend, fits_budget}
use Rattle.list.specs.Types.{word_types, list_of}
use Rattle.budget.specs.Answer.{budget_of}
use Rattle.list_theorems.proofs.ListCodes.{list_codes}
use Rattle.list_theorems.proofs.Granted.{list_count}
use Rattle.closing.specs.Answer.{none, over, granted, answer_of, types_after}

module _ (s : List Node) (bare : Bool) (types : List ℕ) (L : bare ≡ is_empty (children_in s 1)) where
  pub answer_none : bare ≡ true → (none ≡ answer_of s) × (types ≡ types_after s types)
  unfolding answer_of types_after
  answer_none z = rw (sym L ∙ z) (refl, refl)

  module _ (n : bare ≡ false) where
    childless : is_empty (children_in s 1) ≡ false
    childless = sym L ∙ n

    pub answer_over : None ≡ budget_of s → (over ≡ answer_of s) × (types ≡ types_after s types)
    unfolding answer_of types_after budget_of
    answer_over e = rw (childless, go (fits_budget s) e) (refl, refl)
      where
        go : (f : Bool) → None ≡ cond f (Some (budget_max - spend s)) None → f ≡ false
        go true q = absurd (none-some (budget_max - spend s) q)
        go false q = refl

    module _ (left : ℕ) (e : Some left ≡ budget_of s) where
      both : (fits_budget s ≡ true) × (budget_max - spend s ≡ left)
      unfolding budget_of
      both = cond_some (fits_budget s) (budget_max - spend s) left (sym e)

      fits : fits_budget s ≡ true
      fits = both.0

      left_is : left ≡ budget_max - spend s
      left_is = sym both.1

      pub spend_most : spend s ≤ budget_max
      spend_most = leb-true (spend s) budget_max ((and-eq-true_iff (shallow s) (leb (spend s) budget_max)).0 fits).1

      pub answer_granted : (w : ℕ) (types' : List ℕ) → w ≡ last_word s 1 → types' ≡ sets types 0 (all_codes (word_types s 1 0 (w + 1)))
          → types_room ≤ length types → Formed s
          → (granted (w + 1) left (word_bytes * (w + 1)) ≡ answer_of s) × (types' ≡ types_after s types)
      unfolding answer_of types_after list_of
      answer_granted w types' q t h F =
          let e : w + 1 ≡ suc (last_word s 1) = add-one w ∙ ap suc q in
          let most = list_codes s F in
          let m = spend_most in
          let room : 0 + length (all_codes (list_of s)) ≤ length types = omega arith in (
            rw (childless, fits, ← left_is, ← e) refl,
            rw (childless, fits)
                (t ∙ ap (λ (k : ℕ). sets types 0 (all_codes (word_types s 1 0 k))) e ∙ sets-eq (all_codes (list_of s)) types 0 room
                ∙ ap (λ (k : ℕ). all_codes (list_of s) ++ drop k types) (zero-add (length (all_codes (list_of s))))),
          )

      -- the codes fit, and the entries are few
      pub list_fits : Formed s → length (all_codes (list_of s)) ≤ types_room
      list_fits F = let a = list_codes s F in let m = spend_most in omega arith

      pub entries_most : Formed s → suc (last_word s 1) ≤ types_room
      entries_most F = let a = list_fits F in let c = count_codes (list_of s) in let k = list_count s in omega arith

      pub words_fit : (w : ℕ) → w ≡ last_word s 1 → Formed s → 0 + length (all_codes (word_types s 1 0 (w + 1))) ≤ types_room
      unfolding list_of
      words_fit w q F =
          let e : length (all_codes (word_types s 1 0 (w + 1))) ≡ length (all_codes (list_of s)) = ap (λ (k : ℕ). length (all_codes (word_types s 1 0 k))) (add-one w ∙ ap suc q) in
          let l = list_fits F in
          omega arith
