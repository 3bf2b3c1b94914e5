-- The bench readings P2 to P6, over the definition.
use Rattle.std.specs.Prelude.{◌+◌, ◌-◌, ◌^◌, ◌≡◌, refl}
use Rattle.limits.specs.Codes.{no_name, address, uint, fixed_bytes}
use Rattle.mask.specs.Mask.{low_ones, leading_ff, bytes_of, and_mask_to_type}

-- mask 0: none
pub P2 : and_mask_to_type 0 ≡ no_name
unfolding and_mask_to_type bytes_of low_ones leading_ff
P2 = refl

-- all ones: uint256
pub P3 : and_mask_to_type (2 ^ 256 - 1) ≡ uint + 256
unfolding and_mask_to_type bytes_of low_ones leading_ff
P3 = refl

-- 2^160 - 1: address
pub P4 : and_mask_to_type (2 ^ 160 - 1) ≡ address
unfolding and_mask_to_type bytes_of low_ones leading_ff
P4 = refl

-- 2^9 - 1: none
pub P5 : and_mask_to_type (2 ^ 9 - 1) ≡ no_name
unfolding and_mask_to_type bytes_of low_ones leading_ff
P5 = refl

-- four leading ff bytes: bytes4
pub P6 : and_mask_to_type (2 ^ 256 - 2 ^ 224) ≡ fixed_bytes + 4
unfolding and_mask_to_type bytes_of low_ones leading_ff
P6 = refl
