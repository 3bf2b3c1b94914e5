-- Every range name dropped at once, as a change of each node: the state stays formed and no path moves.
use Prim.Native.Nat.{ℕ}
use mathlib.Core.Path.{◌≡◌, refl}
use mathlib.Core.Bool.{Bool, true, false, cond}
use mathlib.Core.List.{List, map}
use Rattle.limits.specs.Codes as code
use Rattle.limits.specs.Fields as field
use Rattle.facts.specs.State.{Node}
use Rattle.facts.specs.Checks.{is_record}
use Rattle.facts.specs.Formed.{Formed}
use Rattle.paths.specs.Update.{with_field}
use Rattle.paths.specs.Adds.{SamePaths}
use Rattle.paths.proofs.Alike.{alike_map}
use Rattle.paths.proofs.Adds.{alike_same}
use Rattle.paths.proofs.Sounds.{formed_map}
use Rattle.marks.specs.Names.{is_range}
use Rattle.marks.specs.Hints.{without_range, clear_range_hints}
use Rattle.marks.proofs.NameSounds.{drop_fact}

without_part : (g : Node → ℕ) → ((n : Node) → g (with_field field.confidence 0 (with_field field.name code.no_name n)) ≡ g n) → (n : Node)
    → g (without_range n) ≡ g n
without_part g e n = go (is_range n)
  where
    go : (b : Bool) → g (cond b (with_field field.confidence 0 (with_field field.name code.no_name n)) n) ≡ g n
    go true = e n
    go false = refl

without_fact : (n : Node) → is_record n ≡ true → is_record (without_range n) ≡ true
without_fact n h = go (is_range n)
  where
    go : (b : Bool) → is_record (cond b (with_field field.confidence 0 (with_field field.name code.no_name n)) n) ≡ true
    go true = drop_fact n h
    go false = h

pub formed_clear_range_hints : (s : List Node) → Formed s → Formed (clear_range_hints s)
unfolding with_field clear_range_hints
formed_clear_range_hints s F =
    formed_map without_range refl refl (without_part (λ n. n.key) (λ n. refl)) (without_part (λ n. n.parent) (λ n. refl)) (without_part (λ n. n.seen) (λ n. refl))
    without_fact s F

pub same_clear_range_hints : (s : List Node) → SamePaths s (clear_range_hints s)
unfolding with_field clear_range_hints
same_clear_range_hints s =
    alike_same s (map without_range s)
    (alike_map without_range refl (without_part (λ n. n.key) (λ n. refl)) (without_part (λ n. n.parent) (λ n. refl)) s)
