-- Where an operation changes the state: each but `clear_range_hints` names one path at most.
use Rattle.std.specs.Prelude.{ℕ, ◌≡◌, List, [], ◌∷◌, ◌++◌}
use Rattle.facts.specs.State.{Node}
use Rattle.paths.specs.Path.{path_of}
use Rattle.paths.specs.Changes.{Begins}
use Rattle.operations.specs.declared.Operation.{Operation}
use Rattle.operations.specs.declared.Operation.TheVariants.{Nothing, ClearRangeHint, ClearRangeHints}
use Rattle.operations.specs.declared.Operation.TheVariants.{MarkNotBool, InsertNotBool, GetOrCreate}
use Rattle.operations.specs.declared.Operation.TheVariants.{SetTname, SetDynamic, SetArray}

-- the path that an operation names: that of p with the key k at its end, or that of a record; the root's, which has no
-- keys, where it names none
abbrev pub named_path : List Node → Operation → List ℕ
named_path s Nothing = []
named_path s (ClearRangeHint p k block) = path_of s p ++ k ∷ []
named_path s ClearRangeHints = []
named_path s (MarkNotBool p k) = path_of s p ++ k ∷ []
named_path s (InsertNotBool p k) = path_of s p ++ k ∷ []
named_path s (GetOrCreate p k) = path_of s p ++ k ∷ []
named_path s (SetTname p k name confidence) = path_of s p ++ k ∷ []
named_path s (SetDynamic p k count) = path_of s p ++ k ∷ []
named_path s (SetArray r count) = path_of s r

-- all that it changes is at the path that it names and on the way to it: it is not `clear_range_hints`
abbrev pub AtPath : Operation → Type 0
AtPath Nothing = Unit {0}
AtPath (ClearRangeHint p k block) = Unit {0}
AtPath ClearRangeHints = ⊥
AtPath (MarkNotBool p k) = Unit {0}
AtPath (InsertNotBool p k) = Unit {0}
AtPath (GetOrCreate p k) = Unit {0}
AtPath (SetTname p k name confidence) = Unit {0}
AtPath (SetDynamic p k count) = Unit {0}
AtPath (SetArray r count) = Unit {0}

-- the path that it names begins with key a, if it names one; the root has no kind, so an array there changes nothing
abbrev pub NamesBelow : ℕ → List Node → Operation → Type 0
NamesBelow a s Nothing = Unit {0}
NamesBelow a s (ClearRangeHint p k block) = Begins a (path_of s p ++ k ∷ [])
NamesBelow a s ClearRangeHints = ⊥
NamesBelow a s (MarkNotBool p k) = Begins a (path_of s p ++ k ∷ [])
NamesBelow a s (InsertNotBool p k) = Begins a (path_of s p ++ k ∷ [])
NamesBelow a s (GetOrCreate p k) = Begins a (path_of s p ++ k ∷ [])
NamesBelow a s (SetTname p k name confidence) = Begins a (path_of s p ++ k ∷ [])
NamesBelow a s (SetDynamic p k count) = Begins a (path_of s p ++ k ∷ [])
NamesBelow a s (SetArray r count) = (r ≡ 1 → ⊥) → Begins a (path_of s r)
