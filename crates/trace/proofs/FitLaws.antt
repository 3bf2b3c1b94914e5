-- What the sizes that fit say, for those who lend that much.
use mathlib.Core.Path.{◌≡◌, refl, sym, ◌∙◌}
use mathlib.Core.Bool.{Bool, true, false, not, and-eq-true_iff}
use Prim.Native.Nat.{ℕ, ◌≤◌}
use borrow.Author.Tests.{leb-true}
use lib.Dec.{leb}
use Rattle.trace.specs.Fits.{group_fits}

-- a test whose negation failed
passed : (r : Bool) → not r ≡ false → r ≡ true
passed true e = refl
passed false e = sym e

module _ (slots entries : ℕ) (r : Bool) (is : r ≡ group_fits slots entries) (yes : not r ≡ false) where
  pub slots_fit : slots ≤ 256
  slots_fit = leb-true slots 256 ((and-eq-true_iff (leb slots 256) (leb entries 256)).0 (sym is ∙ passed r yes)).0

  pub entries_fit : entries ≤ 256
  entries_fit = leb-true entries 256 ((and-eq-true_iff (leb slots 256) (leb entries 256)).0 (sym is ∙ passed r yes)).1
