-- Each operation of this crate adds the stated path and no other, and moves none.
use Rattle.std.proofs.Common.{◌≡◌, ℕ, cond, eqb, List, length, take, refl, ap, ◌∙◌, arith, ne_eqb}
use Rattle.facts.specs.State.{Node}
use Rattle.paths.specs.Find.{find_in}
use Rattle.paths.specs.Make.{ensure, get_or_create}
use Rattle.paths.specs.Adds.{missing}
use Rattle.paths.specs.Adds.{SamePaths, AddsPath}
use Rattle.paths.proofs.Kept.{paths_ensure}
use Rattle.paths.proofs.Reach.{length_ensure, ensure_range}
use Rattle.paths.proofs.Alike.{Alike, alike_create, alike_find, alike_paths}
use Rattle.paths.proofs.Lookups.{find_ensure, find_ensured}

pub alike_same : (s s' : List Node) → Alike s s' → SamePaths s s'
alike_same s s' A = record { size = A.size; kept = alike_paths s s' A; find = alike_find s s' A }

pub alike_adds : (s : List Node) (p k : ℕ) (s' : List Node) → Alike (ensure s p k).state s' → AddsPath s p k s'
alike_adds s p k s' A = record {
  size = A.size ∙ length_ensure s p k;
  kept = ap (take (length s)) (alike_paths (ensure s p k).state s' A) ∙ paths_ensure s p k;
  find = alike_find (ensure s p k).state s' A p k ∙ find_ensured s p k;
  find_else = λ p' k' n. alike_find (ensure s p k).state s' A p' k' ∙ find_ensure s p k p' k' n;
}

pub adds_create : (s : List Node) (p k : ℕ) → AddsPath s p k (get_or_create s p k).state
adds_create s p k = alike_adds s p k (get_or_create s p k).state (alike_create s p k)

-- what a second operation then adds: nothing for the same path, and as much as before for another one
module _ (s : List Node) (p k : ℕ) (s' : List Node) (A : AddsPath s p k s') where
  pub adds_missing : missing s' p k ≡ 0
  unfolding missing
  adds_missing = rw (ne_eqb (find_in s' p k) 0 (λ z. let e = A.find in let h = (ensure_range s p k).0 in omega arith)) refl

  pub adds_missing_else : (p' k' : ℕ) → (p ≡ p' → k ≡ k' → ⊥) → missing s' p' k' ≡ missing s p' k'
  unfolding missing
  adds_missing_else p' k' n = ap (λ (r : ℕ). cond (eqb r 0) 1 0) (A.find_else p' k' n)

pub same_missing : (s s' : List Node) → SamePaths s s' → (p k : ℕ) → missing s' p k ≡ missing s p k
unfolding missing
same_missing s s' A p k = ap (λ (r : ℕ). cond (eqb r 0) 1 0) (A.find p k)
