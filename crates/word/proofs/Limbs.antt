-- Laws of a number in limbs of 64 bits, highest first: AND and counts of ones. They go limb by limb, with the limbs
-- above as one number, since `omega` takes no numeral of more than 38 digits.
use Rattle.std.proofs.Common.{◌≡◌, ℕ, ◌+◌, ◌*◌, ◌^◌, ◌<◌, sym, ap, ◌∙◌}
use lib.Arith.{digits_lt}
use lib.Bits.{bit_and, and_block}
use lib.Count.{ones, ones_cat}
use Rattle.word.specs.Value.{value}

-- a word stands for a number below 2^256
pub value_lt : {l3 l2 l1 l0 : ℕ} → l3 < 2 ^ 64 → l2 < 2 ^ 64 → l1 < 2 ^ 64 → l0 < 2 ^ 64 → value l3 l2 l1 l0 < 2 ^ 256
value_lt h3 h2 h1 h0 = digits_lt (digits_lt (digits_lt h3 h2) h1) h0

-- AND limb by limb is AND of the words
pub and_is : (x3 x2 x1 x0 y3 y2 y1 y0 : ℕ) → x2 < 2 ^ 64 → x1 < 2 ^ 64 → x0 < 2 ^ 64 → y2 < 2 ^ 64 → y1 < 2 ^ 64 → y0 < 2 ^ 64 →
    value (bit_and x3 y3) (bit_and x2 y2) (bit_and x1 y1) (bit_and x0 y0) ≡ bit_and (value x3 x2 x1 x0) (value y3 y2 y1 y0)
and_is x3 x2 x1 x0 y3 y2 y1 y0 h2 h1 h0 i2 i1 i0 =
    sym (and_block 64 _ _ x0 y0 h0 i0
    ∙ ap (λ (n : ℕ). n * 2 ^ 64 + bit_and x0 y0) (and_block 64 _ _ x1 y1 h1 i1
    ∙ ap (λ (n : ℕ). n * 2 ^ 64 + bit_and x1 y1) (and_block 64 x3 y3 x2 y2 h2 i2)))

-- the ones of a limb below others are counted beside theirs
pub ones_joined : (X x : ℕ) → x < 2 ^ 64 → ones X + ones x ≡ ones (X * 2 ^ 64 + x)
ones_joined X x h = sym (ones_cat 64 X x h)
