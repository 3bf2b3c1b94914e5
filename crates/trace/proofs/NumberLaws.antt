-- The loop of `read_numbers`: the first i numbers are read.
use mathlib.Core.Path.{◌≡◌, refl, ◌∙◌}
use mathlib.Core.List.{List, [], ◌∷◌, ◌++◌}
use Prim.Native.Nat.{ℕ, ◌+◌, ◌*◌, ◌<◌}
use native.Mathlib.Numerals.{add-one}
use lib.ListN.{length, take, set}
use lib.Seq.{take-suc-set}
use Rattle.trace.specs.Numbers.{number_at, numbers_of}

module _ (bs out : List ℕ) where
  pub numbers_none : take 0 out ≡ numbers_of 0 bs
  unfolding numbers_of
  numbers_none = refl

  pub numbers_more : (i v : ℕ) → i < length out → take i out ≡ numbers_of i bs → v ≡ number_at bs (i * 4)
      → take (i + 1) (set out i v) ≡ numbers_of (i + 1) bs
  unfolding numbers_of
  numbers_more i v h e ev = rw add-one (take-suc-set out i v h ∙ (λ j. e j ++ (ev j ∷ [])))
