-- Where the walk over a fact's words stands at a child.
use Rattle.std.specs.Prelude.{ℕ, ◌+◌, ◌≤◌, ◌≡◌, List, length}
use Rattle.std.proofs.lemmas.List.Edits.{sets}
use Rattle.types.specs.Codes.{codes, all_codes}
use Rattle.facts.specs.State.{Node}
use Rattle.list.specs.Types.{word_types}
use Rattle.type_walk.specs.declared.Rest.{Rest}
use Rattle.type_walk.specs.Plan.{word_type}

-- what stands ahead of the codes of a word at whose key the record c stands is written: what is left to store, the
-- words that follow, gives all of them, from index at of the list types₀ on
pub record Led (s : List Node) (c : ℕ) (types₀ : List ℕ) (at : ℕ) (types : List ℕ) (a : Rest) : Type 0 where
  pub start : a.start ≤ 1
  pub size : length types ≡ length types₀
  pub left : sets types a.to (all_codes (word_types s c a.start a.words)) ≡ sets types₀ at (codes (word_type s c))
  pub ends : a.to + length (all_codes (word_types s c a.start a.words)) ≡ at + length (codes (word_type s c))
