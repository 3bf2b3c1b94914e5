-- Types as trees, by the ABI specification's section "Types", as far as document 01 has codes for them: no arrays of
-- fixed length, no fixed-point numbers, no function, and no tuples of fewer than two types.
use Rattle.std.specs.Prelude.{ℕ, suc, max, Bool, true, ◌&&◌, leb}
use Rattle.names.specs.Elementary.{Elementary, good_width}

mutual
  -- a type: one with no type inside, an array of a type, or a tuple of types
  pub data AbiType : Type 0 where
    elementary : Elementary → AbiType
    array : AbiType → AbiType
    tuple : AbiTypes → AbiType

  -- a list of types: a tuple's parts, or a function's arguments
  pub data AbiTypes : Type 0 where
    nil : AbiTypes
    cons : AbiType → AbiTypes → AbiTypes

unfoldable pub count : AbiTypes → ℕ
count nil = 0
count (cons t ts) = suc (count ts)

-- the types of the one list, then those of the other
unfoldable pub append : AbiTypes → AbiTypes → AbiTypes
append nil us = us
append (cons t ts) us = cons t (append ts us)

-- document 01's "An ABI type (a well-formed one)": question 2's widths, tuples of two or more types
unfoldable mutual
  pub well_formed : AbiType → Bool
  well_formed (elementary e) = good_width e
  well_formed (array t) = well_formed t
  well_formed (tuple ts) = leb 2 (count ts) && all_well_formed ts

  pub all_well_formed : AbiTypes → Bool
  all_well_formed nil = true
  all_well_formed (cons t ts) = well_formed t && all_well_formed ts

-- "levels are the codes met from an entry down to its innermost type, both ends counted"
unfoldable mutual
  pub levels : AbiType → ℕ
  levels (elementary e) = 1
  levels (array t) = suc (levels t)
  levels (tuple ts) = suc (most_levels ts)

  pub most_levels : AbiTypes → ℕ
  most_levels nil = 0
  most_levels (cons t ts) = max (levels t) (most_levels ts)
