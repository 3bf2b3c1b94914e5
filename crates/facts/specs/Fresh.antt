-- "A fresh call takes question 1 and leaves a lone root, the other records zero, active."
use Rattle.std.specs.Prelude.{ℕ, cond, List, [], ◌∷◌, eqb, Ok, Err}
use Rattle.std.specs.declared.result.Result.{Result}
use Rattle.limits.specs.Refusal.{taken, answer_number}
use Rattle.limits.specs.declared.refusal.Refusal.{Refusal}
use Rattle.facts.specs.State.{root, encode}

-- the value of a fresh call's answer: the record count of a table that is taken, 0 for a refusal
abbrev pub count_of : Result ℕ Refusal → ℕ
count_of (Ok N) = N
count_of (Err refusal) = 0

-- the table that a fresh call leaves, by the number and the value of its answer; refused, it is as it was
abbrev pub fresh_table : Result ℕ Refusal → List ℕ → List ℕ
fresh_table r t = cond (eqb (answer_number r) taken) (encode (count_of r) (root ∷ [])) t
