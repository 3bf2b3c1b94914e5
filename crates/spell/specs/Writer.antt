-- What a writer does. In these words one function promises another; no outcome is written with them.
use Rattle.std.specs.Prelude.{ℕ, ◌≡◌, List, length}
use Rattle.spell.specs.declared.writer.Writer.{Writer}
use Rattle.spell.specs.Stored.{StoredAt}

-- the bytes stand behind those that were written, all else keeps its value, and the writer goes on behind them
abbrev pub Puts : List ℕ → Writer → Writer → Type 0
Puts bytes w w' = StoredAt bytes w.out.now w.to w'.to w'.out.now

-- the writer goes on with the slice that it was lent
abbrev pub SameSlice : Writer → Writer → Type 0
SameSlice w w' = (w'.out.ghost_name ≡ w.out.ghost_name) × (length w'.out.now ≡ length w.out.now)
