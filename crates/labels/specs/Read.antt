-- What is promised of a label that is read: "kind 0 to 3 in that order, offset, path .., added value, masked .., mask"
-- are its number and values. No outcome is written with this definition.
use Rattle.std.specs.Prelude.{ℕ, ◌<◌, ◌^◌, ◌≡◌, true, List, get_or}
use Rattle.std.proofs.lemmas.List.Edits.{sets}
use Rattle.labels.specs.declared.Label.{Label}
use Rattle.labels.specs.Label.{label_at, label_numbers}
use Rattle.labels.specs.Formed.{is_label}

-- l is the label at `at`; where it is well formed, the 13 numbers there are l's
pub record ReadAs (s : List ℕ) (at : ℕ) (l : Label) : Type 0 where
  pub is : l ≡ label_at s at
  pub numbers : ((i : ℕ) → get_or s i 0 < 2 ^ 32) → (used : ℕ) → is_label used s at ≡ true → sets s at (label_numbers l) ≡ s
