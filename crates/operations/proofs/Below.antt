-- Operations at and below one child of the root: nothing changes elsewhere.
use Prim.Native.Nat.{ℕ}
use mathlib.Core.Path.{◌≡◌, refl, sym, ap, subst}
use mathlib.Core.List.{List, [], ◌∷◌, ◌++◌}
use native.Mathlib.Decide.{ℕ_discrete}
use lib.ListN.{length}
use Rattle.std.specs.Prelude.{IfSome}
use Rattle.facts.specs.Formed.{Formed}
use Rattle.facts.specs.State.{Node}
use Rattle.paths.specs.Path.{path_of}
use Rattle.paths.specs.Changes.{Begins, Changes, ChangesBelow}
use Rattle.paths.proofs.Keys.{begins_root, begins_more}
use Rattle.paths.proofs.Changing.{changes_none, changes_then, only_below}
use Rattle.kinds.specs.Kinds.{set_array}
use Rattle.operations.specs.declared.Operation.{Operation}
use Rattle.operations.specs.declared.Operation.TheVariants.{Nothing, ClearRangeHint, ClearRangeHints}
use Rattle.operations.specs.declared.Operation.TheVariants.{MarkNotBool, InsertNotBool, GetOrCreate}
use Rattle.operations.specs.declared.Operation.TheVariants.{SetTname, SetDynamic, SetArray}
use Rattle.operations.specs.Run.{run, run_all}
use Rattle.operations.specs.Asks.{IsUsed, Reaches, makes}
use Rattle.operations.specs.Frame.{named_path, AtPath, NamesBelow}
use Rattle.operations.proofs.Lists.{Each, each_more}
use Rattle.operations.proofs.Framing.{Rooted, formed_rooted, rooted_only, run_rooted}

-- which key a named path begins with: its own below the root, and else that of the path that it continues
pub makes_root : (s : List Node) (o : Operation) → IfSome (makes o) (λ f. f.path ≡ 1 → NamesBelow f.offset s o)
makes_root s Nothing = tt
makes_root s (ClearRangeHint p k block) = tt
makes_root s ClearRangeHints = tt
makes_root s (MarkNotBool p k) = λ e. rw e (begins_root s k)
makes_root s (InsertNotBool p k) = λ e. rw e (begins_root s k)
makes_root s (GetOrCreate p k) = λ e. rw e (begins_root s k)
makes_root s (SetTname p k name confidence) = λ e. rw e (begins_root s k)
makes_root s (SetDynamic p k count) = λ e. rw e (begins_root s k)
makes_root s (SetArray r count) = tt

pub makes_more : (a : ℕ) (s : List Node) (o : Operation)
    → IfSome (makes o) (λ f. Begins a (path_of s f.path) → NamesBelow a s o)
makes_more a s Nothing = tt
makes_more a s (ClearRangeHint p k block) = tt
makes_more a s ClearRangeHints = tt
makes_more a s (MarkNotBool p k) = begins_more a k (path_of s p)
makes_more a s (InsertNotBool p k) = begins_more a k (path_of s p)
makes_more a s (GetOrCreate p k) = begins_more a k (path_of s p)
makes_more a s (SetTname p k name confidence) = begins_more a k (path_of s p)
makes_more a s (SetDynamic p k count) = begins_more a k (path_of s p)
makes_more a s (SetArray r count) = tt

-- records keep their paths, so later the same path is named
module _ (At New : List ℕ → Type 0) (s s' : List Node) (C : Changes At New s s') where
  named_on : (p k : ℕ) → IsUsed (length s) p → path_of s' p ++ k ∷ [] ≡ path_of s p ++ k ∷ []
  named_on p k U = ap (λ (x : List ℕ). x ++ k ∷ []) (C.path p U.from U.to)

  pub named_kept : (o : Operation) → Reaches (length s) o → named_path s' o ≡ named_path s o
  named_kept Nothing R = refl
  named_kept (ClearRangeHint p k block) R = named_on p k R
  named_kept ClearRangeHints R = refl
  named_kept (MarkNotBool p k) R = named_on p k R
  named_kept (InsertNotBool p k) R = named_on p k R
  named_kept (GetOrCreate p k) R = named_on p k R
  named_kept (SetTname p k name confidence) R = named_on p k R
  named_kept (SetDynamic p k count) R = named_on p k R
  named_kept (SetArray r count) R = C.path r R.from R.to

  module _ (a : ℕ) where
    begins_on : (p k : ℕ) → IsUsed (length s) p → Begins a (path_of s p ++ k ∷ []) → Begins a (path_of s' p ++ k ∷ [])
    begins_on p k U b = subst (Begins a) (sym (named_on p k U)) b

    pub below_kept : (o : Operation) → Reaches (length s) o → NamesBelow a s o → NamesBelow a s' o
    below_kept Nothing R B = tt
    below_kept (ClearRangeHint p k block) R B = begins_on p k R B
    below_kept ClearRangeHints R B = absurd B
    below_kept (MarkNotBool p k) R B = begins_on p k R B
    below_kept (InsertNotBool p k) R B = begins_on p k R B
    below_kept (GetOrCreate p k) R B = begins_on p k R B
    below_kept (SetTname p k name confidence) R B = begins_on p k R B
    below_kept (SetDynamic p k count) R B = begins_on p k R B
    below_kept (SetArray r count) R B = λ n. subst (Begins a) (sym (C.path r R.from R.to)) (B n)

    pub each_below_kept : (os : List Operation) → Each (Reaches (length s)) os → Each (NamesBelow a s) os
        → Each (NamesBelow a s') os
    each_below_kept [] R B = tt
    each_below_kept (o ∷ os) R B = (below_kept o R.0 B.0, each_below_kept os R.1 B.1)

-- one that names a path below a child of the root names one
pub below_path : (a : ℕ) (s : List Node) (o : Operation) → NamesBelow a s o → AtPath o
below_path a s Nothing B = tt
below_path a s (ClearRangeHint p k block) B = tt
below_path a s ClearRangeHints B = absurd B
below_path a s (MarkNotBool p k) B = tt
below_path a s (InsertNotBool p k) B = tt
below_path a s (GetOrCreate p k) B = tt
below_path a s (SetTname p k name confidence) B = tt
below_path a s (SetDynamic p k count) B = tt
below_path a s (SetArray r count) B = tt

-- the root has no kind
array_root : (s : List Node) (r count : ℕ) → r ≡ 1 → set_array s r count ≡ s
unfolding set_array
array_root s r count e = rw e refl

module _ (a : ℕ) (s : List Node) where
  module _ (H : Rooted s) where
    -- one that names a path which begins with a
    begun : (o : Operation) → Reaches (length s) o → AtPath o → Begins a (named_path s o) → ChangesBelow a s (run s o)
    begun o R A b = only_below a (named_path s o) s (run s o) b (rooted_only s H o R A)

    pub rooted_below : (o : Operation) → Reaches (length s) o → NamesBelow a s o → ChangesBelow a s (run s o)
    unfolding run
    rooted_below Nothing R B = changes_none (Begins a) (Begins a) s
    rooted_below (ClearRangeHint p k block) R B = begun (ClearRangeHint p k block) R tt B
    rooted_below ClearRangeHints R B = absurd B
    rooted_below (MarkNotBool p k) R B = begun (MarkNotBool p k) R tt B
    rooted_below (InsertNotBool p k) R B = begun (InsertNotBool p k) R tt B
    rooted_below (GetOrCreate p k) R B = begun (GetOrCreate p k) R tt B
    rooted_below (SetTname p k name confidence) R B = begun (SetTname p k name confidence) R tt B
    rooted_below (SetDynamic p k count) R B = begun (SetDynamic p k count) R tt B
    rooted_below (SetArray r count) R B = go (ℕ_discrete r 1)
      where
        go : Dec (r ≡ 1) → ChangesBelow a s (set_array s r count)
        go (yes e) = rw (array_root s r count e) (changes_none (Begins a) (Begins a) s)
        go (no n) = begun (SetArray r count) R tt (B n)

  -- nothing changes, and nothing is new, but at and below the root's child with key a
  pub run_below : (o : Operation) → Formed s → Reaches (length s) o → NamesBelow a s o → ChangesBelow a s (run s o)
  run_below o F R B = rooted_below (formed_rooted s F) o R B

-- one after another; all name their paths in the facts before the first
pub rooted_all_below : (a : ℕ) (s : List Node) (os : List Operation) → Rooted s → Each (Reaches (length s)) os
    → Each (NamesBelow a s) os → ChangesBelow a s (run_all s os)
unfolding run_all
rooted_all_below a s [] H R B = changes_none (Begins a) (Begins a) s
rooted_all_below a s (o ∷ os) H R B =
    let C = rooted_below a s H o R.0 B.0 in
    changes_then (Begins a) (Begins a) s (run s o) (run_all (run s o) os) C
    (rooted_all_below a (run s o) os (run_rooted s H o R.0 (below_path a s o B.0))
    (each_more (length s) (length (run s o)) C.grown os R.1)
    (each_below_kept (Begins a) (Begins a) s (run s o) C a os R.1 B.1))

pub run_all_below : (a : ℕ) (s : List Node) (os : List Operation) → Formed s → Each (Reaches (length s)) os
    → Each (NamesBelow a s) os → ChangesBelow a s (run_all s os)
run_all_below a s os F R B = rooted_all_below a s os (formed_rooted s F) R B
