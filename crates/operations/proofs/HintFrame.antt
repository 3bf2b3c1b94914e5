-- Hints cleared: no path is new, and one hint cleared changes the node at its path alone. What stays of a node that
-- changes is in Clears.
use Prim.Native.Nat.{ℕ, ◌-◌, ◌≤◌, max}
use mathlib.Core.Path.{◌≡◌, refl, ap, ◌∙◌}
use mathlib.Core.Bool.{Bool, true, false, cond}
use mathlib.Core.List.{List, [], ◌∷◌, ◌++◌}
use native.Mathlib.Omega.{arith}
use lib.Dec.{eqb}
use lib.ListN.{length, get_or}
use borrow.Author.Tests.{eqb-false}
use Rattle.limits.specs.Codes as code
use Rattle.limits.specs.Fields as field
use Rattle.facts.specs.Formed.{Formed}
use Rattle.facts.specs.State.{Node, node_of}
use Rattle.paths.specs.Update.{update}
use Rattle.paths.specs.Find.{get_mut}
use Rattle.paths.specs.Adds.{SamePaths}
use Rattle.paths.specs.Path.{path_of}
use Rattle.paths.specs.Changes.{Changes}
use Rattle.paths.proofs.Reach.{update_other}
use Rattle.paths.proofs.Sounds.{formed_ordered}
use Rattle.marks.specs.Names.{is_range, drop_name}
use Rattle.marks.specs.Hints.{clear_at, clear_range_hint}
use Rattle.marks.proofs.Counts.{same_clear_range_hint}
use Rattle.marks.proofs.HintSounds.{same_clear_range_hints}
use Rattle.operations.specs.declared.Operation.TheVariants.{ClearRangeHint, ClearRangeHints}
use Rattle.operations.specs.Run.{run}
use Rattle.operations.specs.Asks.{IsUsed}
use Rattle.operations.proofs.Touched.{touch_got}

-- the same paths, and nodes that are as they were but where At takes their path
same_changes : (At : List ℕ → Type 0) (s s' : List Node) → SamePaths s s'
    → ((q : ℕ) → 1 ≤ q → (At (path_of s q) → ⊥) → node_of s' q ≡ node_of s q) → Changes At (λ p. ⊥) s s'
same_changes At s s' S f = let l = S.size in record {
  grown = omega arith;
  path = λ q q1 h. ap (λ (ps : List (List ℕ)). get_or ps (q - 1) []) S.kept;
  new = λ q g h. absurd (omega arith);
  same = λ q q1 h n. f q q1 n;
}

-- all but the node that is cleared
clear_other : (s : List Node) (r : ℕ) (block : Bool) (q : ℕ) → 1 ≤ r → 1 ≤ q → (q ≡ r → ⊥) → node_of (clear_at s r block) q ≡ node_of s q
clear_other s r block q r1 q1 n = go (is_range (node_of s r))
  where
    blocked : ℕ
    blocked = max (node_of s r).blocked (cond block 1 0)

    t : List Node
    t = update s r field.blocked blocked

    once : node_of t q ≡ node_of s q
    once = update_other s r field.blocked blocked q r1 q1 n

    go : (b : Bool) → node_of (cond b (drop_name t r) t) q ≡ node_of s q
    go true =
        update_other (update t r field.name code.no_name) r field.confidence 0 q r1 q1 n
        ∙ update_other t r field.name code.no_name q r1 q1 n ∙ once
    go false = once

module _ (s : List Node) (F : Formed s) (p k : ℕ) (U : IsUsed (length s) p) where
  hint_other : (block : Bool) (q : ℕ) → 1 ≤ q → (path_of s q ≡ path_of s p ++ k ∷ [] → ⊥)
      → node_of (clear_range_hint s p k block) q ≡ node_of s q
  unfolding clear_range_hint
  hint_other block q q1 n = go (eqb (get_mut s p k) 0) refl
    where
      r : ℕ
      r = get_mut s p k

      go : (b : Bool) → eqb r 0 ≡ b → node_of (cond b s (clear_at s r block)) q ≡ node_of s q
      go true e = refl
      go false e =
          let T = touch_got s (formed_ordered s F) p k U.from U.to (eqb-false r 0 e) in
          clear_other s r block q T.stands.from q1 (λ x. n (ap (path_of s) x ∙ T.stands.path))

  pub hint_only : (block : Bool) → Changes (λ q. q ≡ path_of s p ++ k ∷ []) (λ q. ⊥) s (run s (ClearRangeHint p k block))
  unfolding run
  hint_only block =
      same_changes (λ q. q ≡ path_of s p ++ k ∷ []) s (clear_range_hint s p k block) (same_clear_range_hint s p k block)
      (hint_other block)

-- all of them: any node may change
pub hints_only : (s : List Node) → Changes (λ q. Unit {0}) (λ q. ⊥) s (run s ClearRangeHints)
unfolding run
hints_only s =
    same_changes (λ q. Unit {0}) s (run s ClearRangeHints) (same_clear_range_hints s) (λ q q1 n. absurd (n tt))
