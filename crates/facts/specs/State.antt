-- The state: "the paths so far as the used records", each with its fields, in the order of their numbers; and the table
-- that a state stands for, with child and next derived (decision D31).
use Rattle.std.specs.Prelude.{ℕ, zero, suc, ◌-◌, ◌*◌, cond, List, [], ◌∷◌, ◌++◌, length, get_or, replicate, eqb, ltb}
use Rattle.limits.specs.Limits.{record_width}
use Rattle.facts.specs.Table.{key_of, parent_of, seen_of, not_bool_of, blocked_of, kind_of, count_of, name_of}
use Rattle.facts.specs.Table.{confidence_of}

-- what a table says of a record, its links apart (specs/Table.antt says what each field is)
pub record Node : Type 0 where
  pub key : ℕ
  pub parent : ℕ
  pub seen : ℕ
  pub not_bool : ℕ
  pub blocked : ℕ
  pub kind : ℕ
  pub count : ℕ
  pub name : ℕ
  pub confidence : ℕ

-- a new node: unseen, with no mark
abbrev pub bare : ℕ → ℕ → Node
bare p k =
    record { key = k; parent = p; seen = 0; not_bool = 0; blocked = 0; kind = 0; count = 0; name = 0; confidence = 0 }

-- "At first there is path 1 alone, the root: no keys, seen, otherwise zero"
abbrev pub root : Node
root = record { key = 0; parent = 0; seen = 1; not_bool = 0; blocked = 0; kind = 0; count = 0; name = 0; confidence = 0 }

-- the node that record r of a table holds
abbrev pub node_at : List ℕ → ℕ → Node
node_at t r = record {
  key = key_of t r;
  parent = parent_of t r;
  seen = seen_of t r;
  not_bool = not_bool_of t r;
  blocked = blocked_of t r;
  kind = kind_of t r;
  count = count_of t r;
  name = name_of t r;
  confidence = confidence_of t r;
}

-- the state read off a table with u used records
unfoldable pub nodes : List ℕ → ℕ → List Node
nodes t zero = []
nodes t (suc u) = nodes t u ++ node_at t (suc u) ∷ []

-- the node with number r; number 0 is none's
unfoldable pub node_of : List Node → ℕ → Node
node_of s zero = bare 0 0
node_of s (suc r) = get_or s r (bare 0 0)

-- the paths from the root, by number: a node's is its parent's with its key at the end
abbrev pub paths_from : List (List ℕ) → List Node → List (List ℕ)
paths_from ps [] = ps
paths_from ps (n ∷ ns) = paths_from (ps ++ (get_or ps (n.parent - 1) [] ++ n.key ∷ []) ∷ []) ns

-- the root's has no keys
unfoldable pub paths : List Node → List (List ℕ)
paths [] = []
paths (n ∷ ns) = paths_from ([] ∷ []) ns

-- the number r put in its place by key
unfoldable pub ins : (ℕ → ℕ) → ℕ → List ℕ → List ℕ
ins key r [] = r ∷ []
ins key r (m ∷ ms) = cond (ltb (key r) (key m)) (r ∷ m ∷ ms) (m ∷ ins key r ms)

-- the numbers up to n of the children of p, by rising key
unfoldable pub kids : (ℕ → ℕ) → (ℕ → ℕ) → ℕ → ℕ → List ℕ
kids key parent p zero = []
kids key parent p (suc n) =
    let rest = kids key parent p n in
    cond (eqb (parent (suc n)) p) (cond (ltb p (suc n)) (ins key (suc n) rest) rest) rest

-- the children of p in a state
unfoldable pub kids_in : List Node → ℕ → List ℕ
kids_in s p = kids (λ r. (node_of s r).key) (λ r. (node_of s r).parent) p (length s)

-- the first, 0 without one
abbrev pub head_or : List ℕ → ℕ
head_or [] = 0
head_or (x ∷ xs) = x

-- the one after r, 0 without one
unfoldable pub after : ℕ → List ℕ → ℕ
after r [] = 0
after r (x ∷ xs) = cond (eqb x r) (head_or xs) (after r xs)

-- the next child of r's parent, 0 without one; the root has none
unfoldable pub next_in : List Node → ℕ → ℕ
next_in s r = cond (eqb r 1) 0 (after r (kids_in s (node_of s r).parent))

-- the numbers of record r, in the order of its fields
unfoldable pub row : List Node → ℕ → List ℕ
row s r =
    (node_of s r).key ∷ (node_of s r).parent ∷ head_or (kids_in s r) ∷ next_in s r ∷ (node_of s r).seen ∷ (node_of s r).not_bool
    ∷ (node_of s r).blocked ∷ (node_of s r).kind ∷ (node_of s r).count ∷ (node_of s r).name ∷ (node_of s r).confidence ∷ []

-- those of records 1 to n
unfoldable pub rows : List Node → ℕ → List ℕ
rows s zero = []
rows s (suc n) = rows s n ++ row s (suc n)

-- the table of N records that the state stands for; "Records beyond used are zero."
unfoldable pub encode : ℕ → List Node → List ℕ
encode N s = rows s (length s) ++ replicate ((N - length s) * record_width) 0
