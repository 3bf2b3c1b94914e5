-- The bound of the range rule: "a bound of 1 to 255 inclusive (LT's own bound is one more)".
use Rattle.std.specs.Prelude.{ℕ, ◌+◌, Bool, cond}
use Rattle.limits.specs.Between.{between}
use Rattle.limits.specs.Limits.{range_bound_max}

-- less_than: the comparison is value < bound, whose bound is one more than the largest value; otherwise it is value >
-- bound
unfoldable pub is_range_bound : ℕ → Bool → Bool
is_range_bound bound less_than = cond less_than (between 2 (range_bound_max + 1) bound) (between 1 range_bound_max bound)
