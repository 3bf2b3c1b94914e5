-- Records by their paths, and facts by what they say there, so that the facts of two tables can be held against each
-- other whatever their numbers.
use Rattle.std.specs.Prelude.{◌≡◌, ℕ, ◌-◌, ◌*◌, ◌≤◌, ◌↔◌, List, [], ◌∷◌, ◌++◌, length, slice_index_or}
use Rattle.limits.specs.Limits.{word_bytes}
use Rattle.facts.specs.State.{Node, node_of, paths}

-- the path of the node with number r
abbrev pub path_of : List Node → ℕ → List ℕ
path_of s r = slice_index_or (paths s) (r - 1) []

-- "Facts are the seen records": one of them has this path, kind, count and name
pub record FactAt (s : List Node) (path : List ℕ) (kind count name : ℕ) : Type 0 where
  pub number : ℕ
  pub from : 1 ≤ number
  pub within : number ≤ length s
  pub seen : (node_of s number).seen ≡ 1
  pub has_path : path_of s number ≡ path
  pub has_kind : (node_of s number).kind ≡ kind
  pub has_count : (node_of s number).count ≡ count
  pub has_name : (node_of s number).name ≡ name

-- facts whose path begins with this one: "they agree if the paths are the same, each with equal kind, count and name"
abbrev pub AgreeUnder : List ℕ → List Node → List Node → Type 0
AgreeUnder path s s' = (rest : List ℕ) (kind count name : ℕ)
    → FactAt s (path ++ rest) kind count name ↔ FactAt s' (path ++ rest) kind count name

-- "Facts at and below word k are those whose path begins with key 32k": they agree
abbrev pub AgreeAt : ℕ → List Node → List Node → Type 0
AgreeAt k s s' = AgreeUnder (word_bytes * k ∷ []) s s'
