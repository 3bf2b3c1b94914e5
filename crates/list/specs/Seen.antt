-- What the walks over the facts look at: a fact's seen children. "A record that isn't seen is no node of `Info`", so it
-- is passed over here.
use Rattle.std.specs.Prelude.{ℕ, ◌/◌, max, Bool, true, false, cond, List, [], ◌∷◌, eqb}
use Rattle.limits.specs.Limits.{word_bytes}
use Rattle.facts.specs.State.{Node, node_of, kids_in}

-- those of the numbers whose nodes are seen
unfoldable pub seen_ones : List Node → List ℕ → List ℕ
seen_ones s [] = []
seen_ones s (r ∷ rs) = cond (eqb (node_of s r).seen 1) (r ∷ seen_ones s rs) (seen_ones s rs)

-- the Rust's `children` of a fact, by rising key
abbrev pub children_in : List Node → ℕ → List ℕ
children_in s r = seen_ones s (kids_in s r)

-- `is_empty`
abbrev pub is_empty : List ℕ → Bool
is_empty [] = true
is_empty (r ∷ rs) = false

-- the key of the last of them, k without one
unfoldable pub last_from : List Node → ℕ → List ℕ → ℕ
last_from s k [] = k
last_from s k (r ∷ rs) = last_from s (node_of s r).key rs

-- `last_key_value`: the key of "its last seen child", "0 without one"
abbrev pub last_key : List Node → ℕ → ℕ
last_key s r = last_from s 0 (children_in s r)

-- "its last word, the larger of its last seen child's key / 32 (rounded down, 0 without one) and its count" (a count is
-- 0 without a kind)
unfoldable pub last_word : List Node → ℕ → ℕ
last_word s r = max (last_key s r / word_bytes) (node_of s r).count

-- is there exactly one, and has it no kind?
abbrev pub is_lone_kindless : List Node → List ℕ → Bool
is_lone_kindless s [] = false
is_lone_kindless s (r ∷ []) = eqb (node_of s r).kind 0
is_lone_kindless s (r ∷ q ∷ rs) = false
