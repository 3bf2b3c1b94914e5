-- The type that a mask names: "zero gives none; low ones in whole bytes give uint, 160 of them address; else leading ff
-- bytes, the rest zero, give fixed bytes".
use Rattle.std.specs.Prelude.{ℕ, zero, suc, ◌+◌, ◌-◌, ◌*◌, ◌^◌, cond, eqb, Option, Some, None}
use Rattle.limits.specs.Limits.{word_bytes, address_bits}
use Rattle.limits.specs.Codes.{no_name, address, uint, fixed_bytes}

-- the mask of low ones in n whole bytes
unfoldable pub low_ones : ℕ → ℕ
low_ones n = 2 ^ (8 * n) - 1

-- the mask of n leading ff bytes of 32, the rest zero
unfoldable pub leading_ff : ℕ → ℕ
leading_ff n = 2 ^ 256 - 2 ^ (256 - 8 * n)

-- the n from 1 to k with form n = m, if there is one
unfoldable pub bytes_of : (ℕ → ℕ) → ℕ → ℕ → Option ℕ
bytes_of form m zero = None
bytes_of form m (suc k) = cond (eqb m (form (suc k))) (Some (suc k)) (bytes_of form m k)

abbrev pub low_bytes : ℕ → Option ℕ
low_bytes m = bytes_of low_ones m word_bytes

abbrev pub leading_bytes : ℕ → Option ℕ
leading_bytes m = bytes_of leading_ff m word_bytes

-- the name for n bytes of low ones: 160 of them give address
abbrev pub low_name : ℕ → ℕ
low_name n = cond (eqb (8 * n) address_bits) address (uint + 8 * n)

-- the name for whole bytes of low ones, else for leading ff bytes
abbrev pub name_by : Option ℕ → Option ℕ → ℕ
name_by (Some low) leading = low_name low
name_by None (Some leading) = fixed_bytes + leading
name_by None None = no_name

-- the name that a mask gives; `no_name` for none
unfoldable pub and_mask_to_type : ℕ → ℕ
and_mask_to_type m = cond (eqb m 0) no_name (name_by (low_bytes m) (leading_bytes m))
