-- The name that a mask gives, from the bytes that are counted: the definition's test for zero is one with "no bytes".
use Rattle.std.proofs.Common.{Some, None}
use mathlib.Core.Path.{◌≡◌, refl, sym, ap}
use mathlib.Core.Bool.{Bool, true, false, cond}
use Prim.Native.Nat.{ℕ, ◌+◌, ◌*◌}
use lib.Dec.{eqb}
use borrow.Author.Tests.{eqb-true, eq-eqb, ne_eqb}
use Rattle.limits.specs.Limits.{address_bits}
use Rattle.limits.specs.Codes.{no_name, address, uint, fixed_bytes}
use Rattle.mask.specs.Mask.{low_ones, leading_ff, bytes_of, low_bytes, leading_bytes, name_by, and_mask_to_type}

-- zero has neither low ones nor leading ff
name_by_bytes : (m : ℕ) → and_mask_to_type m ≡ name_by (low_bytes m) (leading_bytes m)
unfolding and_mask_to_type bytes_of low_ones leading_ff
name_by_bytes m = go (eqb m 0) refl
  where
    go : (t : Bool) → eqb m 0 ≡ t → cond t no_name (name_by (low_bytes m) (leading_bytes m)) ≡ name_by (low_bytes m) (leading_bytes m)
    go true e = ap (λ (k : ℕ). name_by (low_bytes k) (leading_bytes k)) (sym (eqb-true m 0 e))
    go false e = refl

module _ (m : ℕ) where
  module _ (low : ℕ) (el : Some low ≡ low_bytes m) where
    pub name_address : 8 * low ≡ address_bits → address ≡ and_mask_to_type m
    name_address e = simp (name_by_bytes, ← el, eq-eqb (8 * low) address_bits e)

    pub name_uint : (8 * low ≡ address_bits → ⊥) → uint + 8 * low ≡ and_mask_to_type m
    name_uint f = simp (name_by_bytes, ← el, ne_eqb (8 * low) address_bits f)

  module _ (el : None ≡ low_bytes m) where
    pub name_bytes : (leading : ℕ) → Some leading ≡ leading_bytes m → fixed_bytes + leading ≡ and_mask_to_type m
    name_bytes leading ed = simp (name_by_bytes, ← el, ← ed)

    pub name_none : None ≡ leading_bytes m → no_name ≡ and_mask_to_type m
    name_none ed = simp (name_by_bytes, ← el, ← ed)

-- what a mask names, case by case
pub ruleset names = (name_address, name_uint, name_bytes, name_none)
