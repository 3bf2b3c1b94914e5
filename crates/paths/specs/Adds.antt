-- What a change of the state does to numbers, paths and lookups: "New records .. take the next free numbers", and no
-- other moves. In these words one function promises another; no outcome is written with them.
use Rattle.std.specs.Prelude.{◌≡◌, ℕ, ◌+◌, cond, List, length, take, ◌==◌, ◌≢◌}
use Rattle.facts.specs.State.{Node, paths}
use Rattle.paths.specs.Find.{find_in}
use Rattle.paths.specs.Make.{ensure}

-- how many paths are added by making sure of the path of p with the key k
unfoldable pub missing : List Node → ℕ → ℕ → ℕ
missing s p k = cond (find_in s p k == 0) 1 0

-- s' has the paths of s under the same numbers, and no other
pub record SamePaths (s s' : List Node) : Type 0 where
  pub size : length s' ≡ length s
  pub kept : paths s' ≡ paths s
  pub find : (p k : ℕ) → find_in s' p k ≡ find_in s p k

-- s' has the paths of s under the same numbers, and the path of p with the key k, added only if it was missing
pub record AddsPath (s : List Node) (p k : ℕ) (s' : List Node) : Type 0 where
  pub size : length s' ≡ length s + missing s p k
  pub kept : take (length s) (paths s') ≡ paths s
  pub find : find_in s' p k ≡ (ensure s p k).number
  pub find_else : (p' k' : ℕ) → (p ≡ p' → k ≢ k') → find_in s' p' k' ≡ find_in s p' k'
