-- "All lent tables are u32 numbers, 256-bit words as eight of them, highest first."
use Rattle.std.specs.Prelude.{ℕ, zero, suc, ◌+◌, ◌*◌, ◌/◌, ◌%◌, ◌^◌, List, [], ◌∷◌, ◌++◌, slice_index}
use Rattle.word.specs.declared.U256.{U256}

-- n numbers of s from `at` on, as digits in base 2^32, highest first
unfoldable pub digits_at : List ℕ → ℕ → ℕ → ℕ
digits_at s at zero = 0
digits_at s at (suc n) = digits_at s at n * 2 ^ 32 + slice_index s (at + n)

-- the word that stands at `at`: eight numbers
abbrev pub word_at : List ℕ → ℕ → ℕ
word_at s at = digits_at s at 8

-- the same word as limbs, two numbers to each
abbrev pub limb_at : List ℕ → ℕ → ℕ
limb_at s at = slice_index s at * 2 ^ 32 + slice_index s (at + 1)

abbrev pub limbs_at : List ℕ → ℕ → U256
limbs_at s at = record { l3 = limb_at s at; l2 = limb_at s (at + 2); l1 = limb_at s (at + 4); l0 = limb_at s (at + 6) }

-- the two numbers of a limb, and the eight of a word, highest first
abbrev pub limb_numbers : ℕ → List ℕ
limb_numbers x = x / 2 ^ 32 ∷ x % 2 ^ 32 ∷ []

abbrev pub numbers_of : U256 → List ℕ
numbers_of x = limb_numbers x.l3 ++ limb_numbers x.l2 ++ limb_numbers x.l1 ++ limb_numbers x.l0
