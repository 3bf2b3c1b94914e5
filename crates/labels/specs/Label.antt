-- A label's 13 numbers: "kind 0 to 3 in that order, offset, path (a record number), added value, masked (0 or 1),
-- mask".
use Rattle.std.specs.Prelude.{ℕ, ◌+◌, cond, List, ◌∷◌, eqb, get_or, replicate, Option, Some, None}
use Rattle.limits.specs.Layout.{label_width, label_offset, label_path, label_added, label_masked, label_mask, label_call_data}
use Rattle.limits.specs.Layout.{label_argument, label_zero_test}
use Rattle.word.specs.Numbers.{limbs_at, numbers_of}
use Rattle.word.specs.declared.U256.{U256}
use Rattle.labels.specs.declared.Label.{Label}
use Rattle.labels.specs.declared.Label.TheVariants.{Unlabelled, CallData, Arg, IsZeroResult}
use Rattle.labels.specs.declared.Val.{Val}

-- the mask that stands in the label at `at`
abbrev pub mask_at : List ℕ → ℕ → Option U256
mask_at s at = cond (eqb (get_or s (at + label_masked) 0) 1) (Some (limbs_at s (at + label_mask))) None

-- what the label at `at` says of an argument
abbrev pub val_at : List ℕ → ℕ → Val
val_at s at = record {
  offset = get_or s (at + label_offset) 0;
  path = get_or s (at + label_path) 0;
  add_val = get_or s (at + label_added) 0;
  and_mask = mask_at s at;
}

-- the label of that kind
unfoldable pub label_of : ℕ → List ℕ → ℕ → Label
label_of kind s at =
    cond (eqb kind label_argument) (Arg (val_at s at))
    (cond (eqb kind label_zero_test) (IsZeroResult (val_at s at))
    (cond (eqb kind label_call_data) CallData Unlabelled))

-- the label whose numbers stand at `at`
abbrev pub label_at : List ℕ → ℕ → Label
label_at s at = label_of (get_or s at 0) s at

-- the nine numbers of a mask, masked first: "an unmasked mask" has "zero in what they don't use"
abbrev pub mask_numbers : Option U256 → List ℕ
mask_numbers None = replicate 9 0
mask_numbers (Some m) = 1 ∷ numbers_of m

abbrev pub val_numbers : ℕ → Val → List ℕ
val_numbers kind v = kind ∷ v.offset ∷ v.path ∷ v.add_val ∷ mask_numbers v.and_mask

-- the 13 numbers of a label
abbrev pub label_numbers : Label → List ℕ
label_numbers Unlabelled = replicate label_width 0
label_numbers CallData = label_call_data ∷ replicate 12 0
label_numbers (Arg v) = val_numbers label_argument v
label_numbers (IsZeroResult v) = val_numbers label_zero_test v
