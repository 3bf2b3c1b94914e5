-- How much a multiplier and a shift say.
use Rattle.std.proofs.Common.{Option, subst}
use Rattle.std.specs.Option.{ForSome}
use Rattle.analyze.proofs.Given.{BytesFit, shift_most}
use Prim.Native.Nat.{ℕ, ◌≤◌}
use mathlib.Core.Path.{◌≡◌, sym, ◌∙◌}
use mathlib.Core.List.{List}
use native.Mathlib.Omega.{arith}
use Rattle.limits.specs.Limits.{array_count_max}
use Rattle.word.specs.Multiplier.{multiplier_of}
use Rattle.word.specs.declared.Multiplier.{Multiplier}
use Rattle.word.specs.declared.Multiplier.TheVariants.{Array}
use Rattle.word.proofs.Multipliers.{array_is}
use Rattle.analyze.specs.Length.{bytes_shift}

-- an array mark counts no more words than the largest
pub count_most : (m : ℕ) (said : Multiplier) → said ≡ multiplier_of m → (count : ℕ) → said ≡ Array count → count ≤ array_count_max
count_most m said e count q = let h = (array_is m count (sym e ∙ q)).2 in omega arith

-- a shift leaves 32 bytes at most
pub bytes_most : (bytes : List ℕ) (pc m : ℕ) (o : Option ℕ) → o ≡ bytes_shift bytes pc m → ForSome o (λ n. n ≤ 32)
bytes_most bytes pc m o e n q = (subst BytesFit (sym e ∙ q) (shift_most bytes pc m)).1
