-- The packed length: what its shape says, and the lowest limb under the mask.
use mathlib.Core.Path.{◌≡◌, refl, sym, ap, ◌∙◌}
use mathlib.Core.Bool.{Bool, true, false, not, ◌&&◌, true≢false}
use mathlib.Core.List.{List}
use Prim.Native.Nat.{ℕ, ◌+◌, ◌*◌, ◌^◌, ◌≤◌, ◌<◌}
use native.Mathlib.Nat.{zero-mul, zero-add}
use native.Mathlib.Omega.{arith}
use borrow.Author.Tests.{leb-true, not-false}
use lib.Bits.{bit_and, and_block, and_zero_r}
use lib.Dec.{leb}
use lib.ListN.{length}
use Rattle.word.specs.Value.{value}
use Rattle.opcode.specs.Opcode.{AND, DUP1}
use Rattle.code.specs.Bytes.{is_at}
use Rattle.code.specs.Length.{compares_size}
use Rattle.code.specs.Dense.{dense_shape}
use Rattle.code.proofs.Places.{inside}

all_true : (a b c d e : Bool) → (a && b && c && d && e) ≡ true → (a ≡ true) × (b ≡ true) × (d ≡ true)
all_true true true true true e h = (refl, refl, refl)
all_true true true true false e h = absurd (true≢false (sym h))
all_true true true false d e h = absurd (true≢false (sym h))
all_true true false c d e h = absurd (true≢false (sym h))
all_true false b c d e h = absurd (true≢false (sym h))

module _ (code : List ℕ) (at n : ℕ) (t : Bool) (et : t ≡ dense_shape code at n) (e : not t ≡ false) where
  parts : (leb 1 n ≡ true) × (leb n 3 ≡ true) × (is_at code (at + 2 + n) AND ≡ true)
  unfolding dense_shape
  parts = all_true (leb 1 n) (leb n 3) (is_at code at DUP1) (is_at code (at + 2 + n) AND) (compares_size code (at + 3 + n)) (sym et ∙ not-false t e)

  pub shape_least : 1 ≤ n
  shape_least = leb-true 1 n parts.0

  pub shape_most : n ≤ 3
  shape_most = leb-true n 3 parts.1

  pub shape_inside : at + 2 + n ≤ length code
  shape_inside = let h = inside code (at + 2 + n) AND parts.2 in omega arith

-- only the lowest limb meets a mask below 2^32
module _ (l3 l2 l1 l0 m : ℕ) (h : l0 < 2 ^ 64) (hm : m < 2 ^ 32) where
  pub masked_law : bit_and l0 m ≡ bit_and (value l3 l2 l1 l0) m
  masked_law =
      let high = (l3 * 2 ^ 64 + l2) * 2 ^ 64 + l1 in
      let up : m ≡ 0 * 2 ^ 64 + m = omega arith in
      let down : bit_and high 0 * 2 ^ 64 + bit_and l0 m ≡ bit_and l0 m = simp (and_zero_r, zero-mul, zero-add) in
      sym (ap (λ (k : ℕ). bit_and (value l3 l2 l1 l0) k) up ∙ and_block 64 high 0 l0 m h (omega arith) ∙ down)

-- what the shape says of the size of its push
pub ruleset shapes = (shape_inside, shape_least, shape_most)
