-- The closing's fill: "`direct_min_calldata_words`, overridden by `dense_min_calldata_words`, fills the head as in the
-- tail"; "the closing's fill goes by rising key".
use Rattle.std.specs.Prelude.{ℕ, zero, suc, ◌*◌, List}
use Rattle.limits.specs.Limits.{word_bytes}
use Rattle.facts.specs.State.{Node}
use Rattle.paths.specs.Make.{get_or_create}

-- the paths of the first words, made and made seen
unfoldable pub fill : List Node → ℕ → List Node
fill s zero = s
fill s (suc words) = (get_or_create (fill s words) 1 (word_bytes * words)).state
