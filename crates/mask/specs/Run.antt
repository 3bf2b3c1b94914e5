-- What the private function `low_run` promises.
use Rattle.std.specs.Prelude.{ℕ, ◌+◌, ◌^◌, ◌≤◌, ◌≡◌, Option, Some, None}

-- m is r low ones, or no run of low ones
abbrev pub Run : ℕ → Option ℕ → Type 0
Run m (Some r) = (r ≤ 256) × (m + 1 ≡ 2 ^ r)
Run m None = (k : ℕ) → k ≤ 256 → m + 1 ≡ 2 ^ k → ⊥
