-- Which bounds name a range.
use Rattle.std.proofs.Common.{◌≡◌, ℕ, ◌≤◌, true, false, leb, ◌↔◌, le-leb, leb-true}
use Rattle.limits.specs.Between.{between}
use Rattle.word.specs.Range.{is_range_bound}
use Rattle.word.proofs.Comparisons.{both_true}

-- what `between` says, both ways
pub between_is : (low high n : ℕ) → (between low high n ≡ true) ↔ ((low ≤ n) × (n ≤ high))
between_is low high n = (
  λ e. let t = both_true (leb low n) (leb n high) e in (leb-true low n t.0, leb-true n high t.1),
  λ h. simp (le-leb low n h.0, le-leb n high h.1),
)

-- value < bound: from 2 to 256
pub range_less : (b : ℕ) → (is_range_bound b true ≡ true) ↔ ((2 ≤ b) × (b ≤ 256))
unfolding is_range_bound
range_less b = between_is 2 256 b

-- value > bound: from 1 to 255
pub range_more : (b : ℕ) → (is_range_bound b false ≡ true) ↔ ((1 ≤ b) × (b ≤ 255))
unfolding is_range_bound
range_more b = between_is 1 255 b
