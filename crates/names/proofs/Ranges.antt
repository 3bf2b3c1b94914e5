-- `is_name` in each range of codes.
use mathlib.Core.Path.{◌≡◌}
use mathlib.Core.Bool.{Bool, ◌&&◌, and-false, or-false}
use Prim.Native.Nat.{ℕ, ◌-◌, ◌≤◌, ◌<◌}
use native.Mathlib.Omega.{arith}
use borrow.Author.Tests.{le-leb, lt-leb}
use lib.Dec.{leb}
use Rattle.names.specs.Elementary.{is_bits, is_name}

module _ (c : ℕ) where
  pub name_below : c < 1000 → (leb 1 c && leb c 4) ≡ is_name c
  unfolding is_name
  name_below h = simp (lt-leb 1000 c h, lt-leb 2000 c (omega arith), lt-leb 3000 c (omega arith), or-false)

  pub name_uint : 1000 ≤ c → c < 2000 → (r : Bool) → r ≡ is_bits (c - 1000) → r ≡ is_name c
  unfolding is_name
  name_uint l h r e =
      simp
      (lt-leb c 4 (omega arith), le-leb 1000 c l, lt-leb 2000 c h, lt-leb 3000 c (omega arith), and-false, or-false)
      e

  pub name_int : 2000 ≤ c → c < 3000 → (r : Bool) → r ≡ is_bits (c - 2000) → r ≡ is_name c
  unfolding is_name
  name_int l h r e =
      simp (
        lt-leb c 4 (omega arith),
        le-leb 1000 c (omega arith),
        lt-leb (c - 1000) 256 (omega arith),
        le-leb 2000 c l,
        lt-leb 3000 c h,
        and-false,
        or-false,
      ) e

  pub name_bytes : 3000 ≤ c → (leb 1 (c - 3000) && leb (c - 3000) 32) ≡ is_name c
  unfolding is_name
  name_bytes l =
      simp (
        lt-leb c 4 (omega arith),
        le-leb 1000 c (omega arith),
        lt-leb (c - 1000) 256 (omega arith),
        le-leb 2000 c (omega arith),
        lt-leb (c - 2000) 256 (omega arith),
        le-leb 3000 c l,
        and-false,
      )
