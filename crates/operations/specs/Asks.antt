-- What an operation asks of the state, and which path it makes: in these words one function promises something to
-- another.
use Rattle.std.specs.Prelude.{ℕ, ◌≤◌, ◌≡◌, Bool, true, false, ◌&&◌, List, eqb, Option, None, Some}
use Rattle.limits.specs.Limits.{confidence_max, array_count_max, dynamic_count_max}
use Rattle.names.specs.Elementary.{is_name}
use Rattle.facts.specs.State.{Node}
use Rattle.paths.specs.Adds.{missing}
use Rattle.operations.specs.declared.FullPath.{FullPath}
use Rattle.operations.specs.declared.Operation.{Operation}
use Rattle.operations.specs.declared.Operation.TheVariants.{Nothing, ClearRangeHint, ClearRangeHints}
use Rattle.operations.specs.declared.Operation.TheVariants.{MarkNotBool, InsertNotBool, GetOrCreate}
use Rattle.operations.specs.declared.Operation.TheVariants.{SetTname, SetDynamic, SetArray}

-- r is a used record
pub record IsUsed (used r : ℕ) : Type 0 where
  pub from : 1 ≤ r
  pub to : r ≤ used

-- the records that an operation names are used
abbrev pub Reaches : ℕ → Operation → Type 0
Reaches used Nothing = Unit {0}
Reaches used (ClearRangeHint p k block) = IsUsed used p
Reaches used ClearRangeHints = Unit {0}
Reaches used (MarkNotBool p k) = IsUsed used p
Reaches used (InsertNotBool p k) = IsUsed used p
Reaches used (GetOrCreate p k) = IsUsed used p
Reaches used (SetTname p k name confidence) = IsUsed used p
Reaches used (SetDynamic p k count) = IsUsed used p
Reaches used (SetArray r count) = IsUsed used r

-- what it stores is what question 2 asks for
abbrev pub Stores : Operation → Type 0
Stores Nothing = Unit {0}
Stores (ClearRangeHint p k block) = Unit {0}
Stores ClearRangeHints = Unit {0}
Stores (MarkNotBool p k) = Unit {0}
Stores (InsertNotBool p k) = Unit {0}
Stores (GetOrCreate p k) = Unit {0}
Stores (SetTname p k name confidence) = (is_name name ≡ true) × (1 ≤ confidence) × (confidence ≤ confidence_max)
Stores (SetDynamic p k count) = count ≤ dynamic_count_max
Stores (SetArray r count) = (1 ≤ count) × (count ≤ array_count_max)

abbrev pub full_path : ℕ → ℕ → FullPath
full_path path offset = record { path = path; offset = offset }

-- the path that an operation makes, if it makes one
abbrev pub makes : Operation → Option FullPath
makes Nothing = None
makes (ClearRangeHint p k block) = None
makes ClearRangeHints = None
makes (MarkNotBool p k) = Some (full_path p k)
makes (InsertNotBool p k) = Some (full_path p k)
makes (GetOrCreate p k) = Some (full_path p k)
makes (SetTname p k name confidence) = Some (full_path p k)
makes (SetDynamic p k count) = Some (full_path p k)
makes (SetArray r count) = None

-- the record that it continues is used, if there is one
abbrev pub PathReaches : ℕ → Option FullPath → Type 0
PathReaches used None = Unit {0}
PathReaches used (Some f) = IsUsed used f.path

-- the same path, or none twice
abbrev pub same : Option FullPath → Option FullPath → Bool
same None None = true
same None (Some g) = false
same (Some f) None = false
same (Some f) (Some g) = eqb f.path g.path && eqb f.offset g.offset

-- 1 where there is one and it is missing
unfoldable pub lacks : List Node → Option FullPath → ℕ
lacks s None = 0
lacks s (Some f) = missing s f.path f.offset
