-- Sums and powers of two, after the Yellow Paper, appendix H.2: "All arithmetic is modulo 2^256 unless otherwise
-- noted."
use Rattle.std.specs.Prelude.{ℕ, ◌+◌, ◌%◌, ◌^◌, cond, nat_lt}

-- ADD: "sums are taken modulo 2^256"
abbrev pub sum_of : ℕ → ℕ → ℕ
sum_of x y = (x + y) % 2 ^ 256

-- "2^shift, which is 0 from shift 256 on". The theorem `power_is_shl` says that it is SHL of 1: (1 * 2^shift) mod 2^256
unfoldable pub power_of : ℕ → ℕ
power_of shift = cond (nat_lt shift 256) (2 ^ shift) 0
