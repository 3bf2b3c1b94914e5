-- Bytes stored in a slice. In these words one function promises another; no outcome is written with them.
use Rattle.std.specs.Prelude.{ℕ, ◌+◌, ◌≡◌, List, length}
use Rattle.std.proofs.lemmas.List.Edits.{sets}

-- the bytes stand from an index on, and r is the index behind them
abbrev pub StoredAt : List ℕ → List ℕ → ℕ → ℕ → List ℕ → Type 0
StoredAt bytes out to r out' = (out' ≡ sets out to bytes) × (r ≡ to + length bytes)

-- they stand at the start of the slice, and r is their length
abbrev pub Stored : List ℕ → List ℕ → ℕ → List ℕ → Type 0
Stored bytes out r out' = (out' ≡ sets out 0 bytes) × (r ≡ length bytes)
