-- What the walks ask of a fact's seen children, all at once.
use Rattle.std.specs.Prelude.{ℕ, ◌≡◌, List, [], ◌∷◌, length}
use Rattle.facts.specs.State.{Node, node_of}
use Rattle.list.specs.Seen.{children_in, last_key}
use Rattle.list.specs.declared.Children.{Children}

-- the kind of the last of them, k without one
unfoldable pub kind_from : List Node → ℕ → List ℕ → ℕ
kind_from s k [] = k
kind_from s k (r ∷ rs) = kind_from s (node_of s r).kind rs

-- how many there are, and the last one's key and kind, 0 without one
pub record Looked (s : List Node) (r : ℕ) (c : Children) : Type 0 where
  pub count : c.count ≡ length (children_in s r)
  pub last : c.last_key ≡ last_key s r
  pub kind : c.last_kind ≡ kind_from s 0 (children_in s r)
