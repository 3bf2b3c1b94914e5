-- A step that is told in numbers of 32 bits fits.
use Prim.Native.Nat.{ℕ, ◌+◌, ◌<◌}
use mathlib.Core.Bool.{Bool, true, false, cond}
use mathlib.Core.List.{List}
use native.Mathlib.Decide.{dec_lt}
use native.Mathlib.Omega.{arith}
use lib.Dec.{eqb}
use lib.ListN.{length, get_or, get_or-eq_default}
use Rattle.limits.specs.Layout.{label_added, label_call_data, label_argument, label_zero_test, slot_label, step_first}
use Rattle.labels.specs.declared.Label.TheVariants.{Unlabelled, CallData, Arg, IsZeroResult}
use Rattle.labels.specs.Label.{val_at, label_of, label_at}
use Rattle.labels.specs.Step.{step_of}
use Rattle.analyze.proofs.Proper.{LabelFits, StepFits}
use Rattle.calls.specs.Fits.{IsU32, AreU32}

-- a number that is not there is read as 0
u32_at : (xs : List ℕ) → AreU32 xs → (i : ℕ) → IsU32 (get_or xs i 0)
u32_at xs h i = go (dec_lt i (length xs))
  where
    go : Dec (i < length xs) → IsU32 (get_or xs i 0)
    go (yes l) = h i l
    go (no n) = rw (get_or-eq_default xs 0 {n = i} (omega arith)) (omega arith)

label_fits : (xs : List ℕ) (at : ℕ) → AreU32 xs → LabelFits (label_at xs at)
unfolding label_of
label_fits xs at h =
    let k = get_or xs at 0 in
    go (eqb k label_argument) (eqb k label_zero_test) (eqb k label_call_data)
  where
    go : (a b c : Bool)
        → LabelFits (cond a (Arg (val_at xs at)) (cond b (IsZeroResult (val_at xs at)) (cond c CallData Unlabelled)))
    go true b c = u32_at xs h (at + label_added)
    go false true c = tt
    go false false true = tt
    go false false false = tt

pub step_fits : (xs : List ℕ) → AreU32 xs → StepFits (step_of xs)
unfolding step_of
step_fits xs h = record { first = label_fits xs (step_first + slot_label) h }
