-- "A fresh call takes question 1 and leaves a lone root, the other records zero, active.": what it answers and leaves,
-- for any numbers at all (decision D34).
use Rattle.std.specs.Prelude.{ℕ, ◌≡◌, cond, [], ◌∷◌, eqb}
use Rattle.limits.specs.Refusal.{taken}
use Rattle.limits.specs.declared.refusal.Refusal.TheVariants.{NoRecords}
use Rattle.facts.specs.State.{root}
use Rattle.head.specs.Held.{Held, records_in, holding, HasRecords}
use Rattle.head.specs.Asked.{Questions, tests, ask, FirstNo}

-- "takes question 1", and no other
abbrev pub questions : Held → Questions
questions h = ask (HasRecords h) NoRecords (tests [])

-- "leaves a lone root, the other records zero, active", in a table of N records
abbrev pub opened : ℕ → Held
opened N = holding N 1 (root ∷ [])

-- the number of the answer and the record count, and what is left; refused, all is as it was. (`one_outcome`: there is
-- one outcome only.)
pub record Outcome (h : Held) (number count : ℕ) (h' : Held) : Type 0 where
  pub asked : FirstNo (questions h) number
  pub counts : count ≡ cond (eqb number taken) (records_in h) 0
  pub leaves : h' ≡ cond (eqb number taken) (opened (records_in h)) h
