-- The text of a name by its code, with its length.
use mathlib.Core.Path.{◌≡◌}
use mathlib.Core.Bool.{true}
use mathlib.Core.List.{◌++◌}
use Prim.Native.Nat.{ℕ, ◌-◌, ◌≤◌, ◌<◌}
use native.Mathlib.Omega.{arith}
use borrow.Author.Tests.{lt-ltb, le-ltb}
use lib.ListN.{length}
use Rattle.names.specs.Ascii.{ascii}
use Rattle.names.specs.Decimal.{decimal}
use Rattle.names.specs.Elementary.{is_name, of_code}
use Rattle.names.specs.Text.{name_text}
use Rattle.names.proofs.Codes.{above, name_has_width, name_wide}
use Rattle.names.proofs.Texts.{name_short}

-- a name has eight bytes at most
pub eight_long : (c r : ℕ) → is_name c ≡ true → r ≡ length (name_text (of_code c)) → r ≤ 8
eight_long c r h e = omega (arith, name_short (of_code c) (name_has_width c h))

module _ (c : ℕ) where
  -- the names with a width
  pub uint_text : 1000 ≤ c → c < 2000 → ascii "uint" ++ decimal (c - 1000) ≡ name_text (of_code c)
  unfolding name_text
  uint_text l h = simp (above c (omega arith), lt-ltb c 2000 h)

  pub int_text : 2000 ≤ c → c < 3000 → ascii "int" ++ decimal (c - 2000) ≡ name_text (of_code c)
  unfolding name_text
  int_text l h = simp (above c (omega arith), le-ltb c 2000 l, lt-ltb c 3000 h)

  pub fixed_text : 3000 ≤ c → ascii "bytes" ++ decimal (c - 3000) ≡ name_text (of_code c)
  unfolding name_text
  fixed_text l = simp (above c (omega arith), le-ltb c 2000 (omega arith), le-ltb c 3000 l)

-- what the text of each name and its length follow from
pub ruleset spellings = (
  uint_text,
  int_text,
  fixed_text,
  name_wide,
  eight_long,
)
