-- A test that the definitions share.
use Rattle.std.specs.Prelude.{ℕ, Bool, ◌&&◌, leb}

-- is n from low to high, both counted?
abbrev pub between : ℕ → ℕ → ℕ → Bool
between low high n = leb low n && leb n high
