-- The codes of a type: "5 array (its element follows), .. 16384 + n a tuple of n types that follow (n at least 2)".
use Rattle.std.specs.Prelude.{ℕ, ◌+◌, ◌≤◌, List, [], ◌∷◌, ◌++◌, true, ◌≡◌, length}
use Rattle.limits.specs.Codes as code
use Rattle.limits.specs.Limits.{codes_max}
use Rattle.names.specs.Elementary.{code_of}
use Rattle.types.specs.Tree.{AbiType, AbiTypes, elementary, array, tuple, nil, cons, count, all_well_formed}

unfoldable mutual
  pub codes : AbiType → List ℕ
  codes (elementary e) = code_of e ∷ []
  codes (array t) = code.array ∷ codes t
  codes (tuple ts) = (code.tuple + count ts) ∷ all_codes ts

  pub all_codes : AbiTypes → List ℕ
  all_codes nil = []
  all_codes (cons t ts) = codes t ++ all_codes ts

-- the numbers are the codes of these types, which are well formed. (`only_types`: of no others)
pub record Spells (ts : AbiTypes) (cs : List ℕ) : Type 0 where
  pub formed : all_well_formed ts ≡ true
  pub spelt : all_codes ts ≡ cs

-- question 10: "is the list a whole number of well-formed types, at most 8,192 codes?" It is, and these are the types
pub record Passes (ts : AbiTypes) (cs : List ℕ) : Type 0 where
  pub spells : Spells ts cs
  pub most : length cs ≤ codes_max
