-- The text of a name has eight bytes at most.
use mathlib.Core.Path.{◌≡◌}
use mathlib.Core.Bool.{true}
use Prim.Native.Nat.{◌≤◌}
use native.Mathlib.Omega.{arith}
use lib.ListN.{length}
use Rattle.names.specs.Elementary.{Elementary, bool, address, bytes, string, uint, int, fixed_bytes, good_width}
use Rattle.names.specs.Text.{name_text}
use Rattle.names.proofs.Codes.{between_bounds, bits_bounds}
use Rattle.names.proofs.Decimals.{width_short}

pub name_short : (e : Elementary) → good_width e ≡ true → length (name_text e) ≤ 8
unfolding name_text good_width
name_short bool h = omega arith
name_short address h = omega arith
name_short bytes h = omega arith
name_short string h = omega arith
name_short (uint n) h = let b = bits_bounds n h in omega (arith, width_short n (omega arith))
name_short (int n) h = let b = bits_bounds n h in omega (arith, width_short n (omega arith))
name_short (fixed_bytes n) h = let b = between_bounds 1 32 n h in omega (arith, width_short n (omega arith))
