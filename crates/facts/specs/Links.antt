-- "Children of one record form a chain through next, keys strictly rising, zero ending the chain." u is the number of
-- used records.
use Rattle.std.specs.Prelude.{ℕ, ◌+◌, ◌≤◌, ◌<◌, ◌≡◌, List, [], ◌∷◌, ◌⊎◌}
use Rattle.facts.specs.Table.{key_of, parent_of, child_of, next_of}

-- r is a child of p by its own fields: used, with the parent p, which has a lower number
pub record Kid (t : List ℕ) (u p r : ℕ) : Type 0 where
  pub above : p < r
  pub used : r ≤ u
  pub parent : parent_of t r ≡ p

-- x is in the list
abbrev pub In : ℕ → List ℕ → Type 0
In x [] = ⊥
In x (y ∷ ys) = (x ≡ y) ⊎ In x ys

-- from record c on, through next, one passes the records ms and comes to d
abbrev pub Seg : List ℕ → ℕ → List ℕ → ℕ → Type 0
Seg t c [] d = c ≡ d
Seg t c (m ∷ ms) d = (c ≡ m) × (m ≡ 0 → ⊥) × Seg t (next_of t m) ms d

-- "keys strictly rising": along ms, all from b on
abbrev pub Rising : List ℕ → ℕ → List ℕ → Type 0
Rising t b [] = Unit {0}
Rising t b (m ∷ ms) = (b ≤ key_of t m) × Rising t (key_of t m + 1) ms

-- the chain of p, from its child to the "zero ending the chain"; "a chain holds nothing else" than children of p
pub record ChainOf (t : List ℕ) (u p : ℕ) : Type 0 where
  pub members : List ℕ
  pub whole : Seg t (child_of t p) members 0
  pub rising : Rising t 0 members
  pub kids : (m : ℕ) → In m members → Kid t u p m
