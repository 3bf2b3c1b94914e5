-- In these words one function promises another; no outcome is written with them.
use Rattle.std.specs.Prelude.{ℕ, Result, Ok, Err}
use Rattle.limits.specs.declared.refusal.Refusal.{Refusal}

-- the text's length, or what was lent for it
abbrev pub length_after : Result ℕ Refusal → ℕ → ℕ
length_after (Ok n) lent = n
length_after (Err r) lent = lent
