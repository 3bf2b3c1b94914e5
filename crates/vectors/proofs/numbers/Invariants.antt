-- Each number below the index is the one that stands there.
use Rattle.std.proofs.Common.{◌≡◌, ℕ, ◌<◌, [], length, slice_index_or}
use Rattle.std.specs.Int.{from_be_bytes, w32}
use Rattle.vectors.proofs.numbers.Given as goal

abbrev pub invariant-loop-k : goal.invariant-loop-k
invariant-loop-k g l =
    (length l.numbers ≡ g.row.K)
    × ((j : ℕ) → j < l.k → slice_index_or l.numbers j 0 ≡ from_be_bytes w32 (slice_index_or l.quads j []))
