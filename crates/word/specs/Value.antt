-- The number that a word stands for. Yellow Paper, 9.1: "The word size of the machine (and thus size of stack items) is
-- 256-bit".
use Rattle.std.specs.Prelude.{ℕ, ◌+◌, ◌*◌, ◌^◌}
use Rattle.word.specs.declared.U256.{U256}

-- four limbs of 64 bits, highest first, written by Horner's rule
abbrev pub value : ℕ → ℕ → ℕ → ℕ → ℕ
value l3 l2 l1 l0 = ((l3 * 2 ^ 64 + l2) * 2 ^ 64 + l1) * 2 ^ 64 + l0

abbrev pub value_of : U256 → ℕ
value_of x = value x.l3 x.l2 x.l1 x.l0
