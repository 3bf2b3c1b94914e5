-- How many records the fill adds. In these words one function promises another; no outcome is written with them.
use Rattle.std.specs.Prelude.{ℕ, zero, suc, ◌+◌, ◌*◌, List}
use Rattle.limits.specs.Limits.{word_bytes}
use Rattle.facts.specs.State.{Node}
use Rattle.paths.specs.Adds.{missing}

-- how many paths that adds
unfoldable pub fill_missing : List Node → ℕ → ℕ
fill_missing s zero = 0
fill_missing s (suc words) = fill_missing s words + missing s 1 (word_bytes * words)
