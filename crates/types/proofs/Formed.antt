-- What it says of the parts that the whole is well formed, and the other way round.
use mathlib.Core.Path.{◌≡◌}
use mathlib.Core.Bool.{true, and-eq-true_iff}
use Prim.Native.Nat.{◌≤◌}
use borrow.Author.Tests.{leb-true, le-leb}
use lib.Dec.{leb}
use Rattle.types.specs.Tree.{AbiType, AbiTypes, tuple, cons, count, well_formed, all_well_formed}

module _ (t : AbiType) (ts : AbiTypes) where
  -- the first type of a well-formed list is well formed
  pub head_formed : all_well_formed (cons t ts) ≡ true → well_formed t ≡ true
  unfolding well_formed
  head_formed h = ((and-eq-true_iff (well_formed t) (all_well_formed ts)).0 h).0

  -- and so are the others
  pub tail_formed : all_well_formed (cons t ts) ≡ true → all_well_formed ts ≡ true
  unfolding well_formed
  tail_formed h = ((and-eq-true_iff (well_formed t) (all_well_formed ts)).0 h).1

  -- a well-formed type before well-formed types
  pub cons_formed : well_formed t ≡ true → all_well_formed ts ≡ true → all_well_formed (cons t ts) ≡ true
  unfolding well_formed
  cons_formed p q = (and-eq-true_iff (well_formed t) (all_well_formed ts)).1 (p, q)

module _ (ts : AbiTypes) where
  -- a well-formed tuple has two parts or more
  pub tuple_count : well_formed (tuple ts) ≡ true → 2 ≤ count ts
  unfolding well_formed
  tuple_count h = leb-true 2 (count ts) ((and-eq-true_iff (leb 2 (count ts)) (all_well_formed ts)).0 h).0

  -- and its parts are well formed
  pub tuple_parts : well_formed (tuple ts) ≡ true → all_well_formed ts ≡ true
  unfolding well_formed
  tuple_parts h = ((and-eq-true_iff (leb 2 (count ts)) (all_well_formed ts)).0 h).1

  -- two or more well-formed types are a well-formed tuple
  pub tuple_formed : 2 ≤ count ts → all_well_formed ts ≡ true → well_formed (tuple ts) ≡ true
  unfolding well_formed
  tuple_formed p q = (and-eq-true_iff (leb 2 (count ts)) (all_well_formed ts)).1 (le-leb 2 (count ts) p, q)
