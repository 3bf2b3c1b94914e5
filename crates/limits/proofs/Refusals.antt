-- No refusal has the number of a call that is taken.
use mathlib.Core.Path.{◌≡◌, refl}
use mathlib.Core.Bool.{false}
use lib.Dec.{eqb}
use Rattle.limits.specs.declared.refusal.Refusal.{Refusal}
use Rattle.limits.specs.declared.refusal.Refusal.TheVariants.{NoRecords, Unsound, LongCode, BrokenSizes}
use Rattle.limits.specs.declared.refusal.Refusal.TheVariants.{BrokenLabels, BrokenFields, NoSlot, NoRoom}
use Rattle.limits.specs.declared.refusal.Refusal.TheVariants.{ShortTypes, BadTypes, ShortText}
use Rattle.limits.specs.Refusal.{taken, number_of}

pub not_taken : (r : Refusal) → eqb (number_of r) taken ≡ false
not_taken NoRecords = refl
not_taken Unsound = refl
not_taken LongCode = refl
not_taken BrokenSizes = refl
not_taken BrokenLabels = refl
not_taken BrokenFields = refl
not_taken NoSlot = refl
not_taken NoRoom = refl
not_taken ShortTypes = refl
not_taken BadTypes = refl
not_taken ShortText = refl
