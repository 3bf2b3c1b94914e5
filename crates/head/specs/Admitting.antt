-- The answer to questions 1 and 2. In these words one function promises another; no outcome is written with them.
use Rattle.std.specs.Prelude.{ℕ, ◌≡◌, [], Ok, Err}
use Rattle.limits.specs.Refusal.{number_of}
use Rattle.limits.specs.declared.refusal.Refusal.{Refusal}
use Rattle.std.specs.declared.result.Result.{Result}
use Rattle.head.specs.Held.{Held, records_in, HasRecords, IsSound}
use Rattle.head.specs.Asked.{FirstNo, after_sound}

-- 1 and 2 are passed, with that many records
pub record Admits (h : Held) (n : ℕ) : Type 0 where
  pub is : n ≡ records_in h
  pub counted : HasRecords h
  pub sound : IsSound h

-- what the answer to 1 and 2 says
abbrev pub AdmittedBy : Held → Result ℕ Refusal → Type 0
AdmittedBy h (Ok n) = Admits h n
AdmittedBy h (Err r) = FirstNo (after_sound h []) (number_of r)
