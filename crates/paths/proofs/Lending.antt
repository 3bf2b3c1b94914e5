-- What calls do to the facts of a lent table, one after another.
use Rattle.std.proofs.Common.{◌≡◌, ℕ, List, refl, ap, ◌∙◌, arith}
use Rattle.facts.specs.State.{Node}
use Rattle.paths.specs.declared.lent.FactsMut.{FactsMut}
use Rattle.paths.specs.Lent.{facts_in, IsSameTable, Becomes, Grows, Makes}
use Rattle.paths.specs.Make.{Made}

pub same_stays : (a : FactsMut) → IsSameTable a a
same_stays a = record { records = refl; reference = refl }

pub same_then : (a b c : FactsMut) → IsSameTable a b → IsSameTable b c → IsSameTable a c
same_then a b c S T = record { records = T.records ∙ S.records; reference = T.reference ∙ S.reference }

-- nothing is done
pub stays : (a : FactsMut) (s : List Node) → facts_in a ≡ s → Becomes a a s
stays a s e = record { state = e; used = refl; same = same_stays a }

pub grows_so : (a b : FactsMut) (s : List Node) → Becomes a b s → Grows a b s
grows_so a b s B = record { state = B.state; used = rw B.used (omega arith); same = B.same }

-- one change after another
pub becomes_then : (f : List Node → List Node) (a b c : FactsMut) (s : List Node) → Becomes a b s → Becomes b c (f (facts_in b)) → Becomes a c (f s)
becomes_then f a b c s B C = record {
  state = C.state ∙ ap f B.state;
  used = C.used ∙ B.used;
  same = same_then a b c B.same C.same;
}

-- a path made, and then a change
pub makes_then : (f : Made → List Node) (a b c : FactsMut) (m : Made) (r : ℕ) (s : List Node) → Makes a b m r → Becomes b c s
    → ((state : List Node) (number : ℕ) → facts_in b ≡ state → r ≡ number → s ≡ f (record { state = state; number = number })) → Grows a c (f m)
makes_then f a b c m r s M B so = record {
  state = B.state ∙ so m.state m.number M.state M.number;
  used = rw B.used M.range.2;
  same = same_then a b c M.same B.same;
}
