-- What a walk has before it: of a chain, and of a path up to the root.
use Rattle.std.specs.Prelude.{ℕ, zero, suc, cond, eqb, List, [], ◌∷◌}
use Rattle.facts.specs.State.{Node, node_of, nodes, kids_in}
use Rattle.paths.specs.Lent.{facts_of}
use Rattle.paths.specs.declared.chain.Chain.{Chain}
use Rattle.paths.specs.declared.upward.Upward.{Upward}

-- the list from x on, nothing where x is not in it
abbrev pub from_on : ℕ → List ℕ → List ℕ
from_on x [] = []
from_on x (y ∷ ys) = cond (eqb x y) (y ∷ ys) (from_on x ys)

-- the children that an iterator over them has not given yet
abbrev pub chain_left : Chain → List ℕ
chain_left c = from_on c.next (kids_in (nodes c.links.table.now c.links.used) c.parent)

-- the node r and each that its path continues, up to the root; n is as many turns as that can take
unfoldable pub ups : ℕ → List Node → ℕ → List ℕ
ups zero s r = []
ups (suc n) s r = cond (eqb r 0) [] (r ∷ ups n s (node_of s r).parent)

-- a parent has a lower number, so r turns are enough
abbrev pub upward : List Node → ℕ → List ℕ
upward s r = ups r s r

-- those that an iterator over them has not given yet
abbrev pub upward_left : Upward → List ℕ
upward_left w = upward (facts_of w.facts) w.next
