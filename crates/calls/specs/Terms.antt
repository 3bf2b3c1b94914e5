-- The terms of demand 3, in its own and document 01's words, over a state s, whose seen nodes are the facts.
use Rattle.std.specs.Prelude.{ℕ, ◌≤◌, ◌<◌, ◌≡◌, true, List, length}
use Rattle.limits.specs.Limits.{budget_max, depth_max, levels_max}
use Rattle.types.specs.Tree.{AbiTypes, count, all_well_formed, levels}
use Rattle.types.specs.Codes.{all_codes}
use Rattle.facts.specs.State.{Node, node_of}
use Rattle.paths.specs.Path.{path_of}
use Rattle.list.specs.Budget.{spend}
use Rattle.list_theorems.specs.Entry.{entry_of}

-- "Facts are the seen records": r is one
pub record Fact (s : List Node) (r : ℕ) : Type 0 where
  pub from : 1 ≤ r
  pub within : r ≤ length s
  pub seen : (node_of s r).seen ≡ 1

-- "Some argument is known if a fact isn't the root."
pub record SomeArgument (s : List Node) : Type 0 where
  pub number : ℕ
  pub fact : Fact s number
  pub not_root : 1 < number

-- demand 3: "no fact lies deeper than 64"; document 01: "A fact's depth is the number of keys on its path from the
-- root."
abbrev pub NoneDeeper : List Node → Type 0
NoneDeeper s = (r : ℕ) → Fact s r → length (path_of s r) ≤ depth_max

-- demand 3: "the sum over all facts of last word plus one is at most 8,192"
abbrev pub SumFits : List Node → Type 0
SumFits s = spend s ≤ budget_max

-- demand 3: "is made of ABI types only, has no more type parts than the sum, and nests at most 129 levels"; document
-- 01: "Type parts are codes". A list ts for s
pub record WellListed (s : List Node) (ts : AbiTypes) : Type 0 where
  pub types : all_well_formed ts ≡ true
  pub parts : length (all_codes ts) ≤ spend s
  pub nests : (k : ℕ) → k < count ts → levels (entry_of k ts) ≤ levels_max
