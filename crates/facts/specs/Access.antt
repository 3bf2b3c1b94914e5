-- Fields read and stored. In these words one function promises another; no outcome is written with them.
use Rattle.std.specs.Prelude.{ℕ, ◌+◌, ◌-◌, ◌*◌, ◌≤◌, ◌<◌, ◌≡◌, List, length, get_or, set}
use Rattle.limits.specs.Limits.{record_width}

-- the table with v at field f of record r
unfoldable pub put : List ℕ → ℕ → ℕ → ℕ → List ℕ
put t r f v = set t ((r - 1) * record_width + f) v

-- the table has the record r and its field f
pub record Has (t : List ℕ) (r f : ℕ) : Type 0 where
  pub from : 1 ≤ r
  pub within : r * record_width ≤ length t
  pub field : f < record_width

-- the table has the record r
pub record HasRecord (t : List ℕ) (r : ℕ) : Type 0 where
  pub from : 1 ≤ r
  pub within : r * record_width ≤ length t

-- each number from place start on is zero
abbrev pub ZeroFrom : List ℕ → ℕ → Type 0
ZeroFrom t start = (i : ℕ) → start ≤ i → i < length t → get_or t i 0 ≡ 0
