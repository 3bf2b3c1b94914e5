-- "then kept if below 2^32".
use Rattle.std.specs.Prelude.{ℕ, ◌^◌, cond, nat_lt, Option, Some, None}

unfoldable pub kept_of : ℕ → Option ℕ
kept_of n = cond (nat_lt n (2 ^ 32)) (Some n) None
