-- What a change of the state leaves alone, said of paths: "new paths take the next numbers", the others keep theirs,
-- and no node changes but at the paths that are named.
use Rattle.std.specs.Prelude.{◌≡◌, ℕ, ◌<◌, ◌≤◌, List, [], ◌∷◌, length}
use Rattle.facts.specs.State.{Node, node_of}
use Rattle.paths.specs.Path.{path_of}

-- path begins with p: it is p, or continues it
abbrev pub Starts : List ℕ → List ℕ → Type 0
Starts [] path = Unit {0}
Starts (k ∷ p) [] = ⊥
Starts (k ∷ p) (j ∷ path) = (k ≡ j) × Starts p path

-- as in "whose path begins with key 32k": this one begins with key a
abbrev pub Begins : ℕ → List ℕ → Type 0
Begins a path = Starts (a ∷ []) path

-- p is path, or one that path continues, and not the root's, which has no keys
pub record Toward (path p : List ℕ) : Type 0 where
  pub starts : Starts p path
  pub not_root : p ≡ [] → ⊥

-- s' has the paths of s under the same numbers and, behind them, paths that New takes; nodes of s whose path At does
-- not take are as they were
pub record Changes (At New : List ℕ → Type 0) (s s' : List Node) : Type 0 where
  pub grown : length s ≤ length s'
  pub path : (q : ℕ) → 1 ≤ q → q ≤ length s → path_of s' q ≡ path_of s q
  pub new : (q : ℕ) → length s < q → q ≤ length s' → New (path_of s' q)
  pub same : (q : ℕ) → 1 ≤ q → q ≤ length s → (At (path_of s q) → ⊥) → node_of s' q ≡ node_of s q

-- nothing changes but the nodes of path and of those that it continues, the root's apart, and path alone may be new
abbrev pub ChangesOnly : List ℕ → List Node → List Node → Type 0
ChangesOnly path = Changes (Toward path) (λ p. p ≡ path)

-- nothing changes and nothing is new but at and below the root's child with key a
abbrev pub ChangesBelow : ℕ → List Node → List Node → Type 0
ChangesBelow a = Changes (Begins a) (Begins a)
