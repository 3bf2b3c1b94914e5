-- A granted list is one that the text call takes, with an entry for each word of the root.
use Prim.Native.Nat.{suc, ◌+◌, ◌*◌, ◌≤◌}
use mathlib.Core.Path.{◌≡◌, refl, ap}
use mathlib.Core.Bool.{true, and-eq-true_iff}
use mathlib.Core.List.{List}
use native.Mathlib.Omega.{arith}
use lib.Dec.{leb}
use borrow.Author.Tests.{leb-true}
use Rattle.limits.specs.Limits.{budget_max, depth_max}
use Rattle.types.specs.Tree.{AbiType, AbiTypes, cons, count, append, levels, most_levels}
use Rattle.types.specs.Codes.{all_codes, Passes}
use Rattle.types.proofs.Sizes.{entry_levels}
use Rattle.facts.specs.Formed.{Formed}
use Rattle.facts.specs.State.{Node}
use Rattle.list.specs.Seen.{last_word}
use Rattle.list.specs.Budget.{shallow, spend, fits_budget}
use Rattle.list.specs.Types.{type_of, list_of}
use Rattle.list.proofs.TypeLaws.{count_words}
use Rattle.list_theorems.proofs.ListCodes.{list_codes}
use Rattle.list_theorems.proofs.ListFormed.{list_formed}
use Rattle.list_theorems.proofs.ListLevels.{list_levels}

-- "one for each entry, from word 0 to the root's last word"
pub list_count : (s : List Node) → count (list_of s) ≡ suc (last_word s 1)
unfolding list_of
list_count s = count_words (type_of s) s 1 0 (suc (last_word s 1))

module _ (s : List Node) (F : Formed s) (h : fits_budget s ≡ true) where
  -- question 10: "is the list a whole number of well-formed types, at most 8,192 codes?"
  pub list_passes : Passes (list_of s) (all_codes (list_of s))
  list_passes =
      let a = list_codes s F in
      let b = leb-true (spend s) budget_max ((and-eq-true_iff (shallow s) (leb (spend s) budget_max)).0 h).1 in
      record { spells = record { formed = list_formed s F; spelt = refl }; most = omega arith }

  -- no entry has more than 129 levels
  pub list_entry : (us : AbiTypes) (t : AbiType) (vs : AbiTypes) → list_of s ≡ append us (cons t vs) → levels t ≤ 2 * depth_max + 1
  list_entry us t vs e =
      let a = list_levels s F ((and-eq-true_iff (shallow s) (leb (spend s) budget_max)).0 h).0 in
      let b = entry_levels us t vs in
      let c = ap most_levels e in
      omega arith
