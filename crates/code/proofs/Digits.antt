-- A number read byte by byte, and its bound.
use mathlib.Core.Path.{◌≡◌, refl, sym, ap, ◌∙◌, subst}
use mathlib.Core.List.{List}
use Prim.Native.Nat.{ℕ, ◌+◌, ◌-◌, ◌*◌, ◌^◌, ◌≤◌, ◌<◌}
use native.Mathlib.Nat.{lt_of_lt_of_le}
use native.Mathlib.Numerals.{add-one}
use native.Mathlib.Omega.{arith}
use lib.Arith.{digits_lt}
use lib.Pow.{pow-add, pow_mono}
use lib.ListN.{length, get_or, take, drop, length-drop}
use Rattle.std.proofs.Common.{length-take-le}
use Rattle.std.proofs.lemmas.List.{get_or-drop, get_or-take}
use mir.Syntax.{w8, w32}
use mir.Val.{Fits}
use Rattle.code.specs.Bytes.{number_at}

-- what the loop keeps after i bytes
pub record Read (code : List ℕ) (at n number i : ℕ) : Type 0 where
  pub turns : i ≤ n
  pub is : number ≡ number_at code at i
  pub small : number < 2 ^ (8 * i)

grows : (i x b : ℕ) → x < 2 ^ (8 * i) → b < 256 → x * 256 + b < 2 ^ (8 * (i + 1))
grows i x b hx hb =
    let e : 8 * i + 8 ≡ 8 * (i + 1) = omega arith in
    subst (λ (m : ℕ). x * 256 + b < m) (sym (pow-add 2 (8 * i) 8) ∙ ap (λ (k : ℕ). 2 ^ k) e) (digits_lt hx hb)

pub read_none : (code : List ℕ) (at n : ℕ) → Read code at n 0 0
unfolding number_at
read_none code at n = record { turns = omega arith; is = refl; small = omega arith }

-- byte i of the n from the place on
module _ (code : List ℕ) (at n number i : ℕ) (room : (at + n ≤ length code) × (n ≤ 4)) (more : i < length (take (at + n - at) (drop at code)))
    (so_far : Read code at n number i) (bytes : (k : ℕ) → Fits w8 (get_or code k 0)) where
  turn : i < n
  turn = let h = length-take-le (at + n - at) (drop at code) (omega (arith, room.0, length-drop at code)) in omega arith

  below_24 : number < 2 ^ 24
  below_24 = lt_of_lt_of_le so_far.small (pow_mono {j = 24} (omega (arith, room.1, turn)))

  pub shifted_fits : Fits w32 (number * 256)
  shifted_fits = record { fits = let h = below_24 in omega arith }

  module _ (b : ℕ) (e : b ≡ get_or (take (at + n - at) (drop at code)) i 0) where
    byte_is : b ≡ get_or code (at + i) 0
    byte_is = let h : i < at + n - at = omega (arith, turn) in e ∙ get_or-take (at + n - at) (drop at code) i 0 h ∙ get_or-drop at code i 0

    small : b < 256
    small = let h = (bytes (at + i)).fits in omega (arith, byte_is)

    pub added_fits : Fits w32 (number * 256 + b)
    added_fits = record { fits = let h = below_24 in omega (arith, small) }

    pub read_more : Read code at n (number * 256 + b) (i + 1)
    unfolding number_at
    read_more = record {
      turns = omega (arith, turn);
      is = rw (add-one, so_far.is, byte_is) refl;
      small = grows i number b so_far.small small;
    }
