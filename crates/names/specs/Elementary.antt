-- The types with no type inside, and their codes: "1 bool, 2 address, 3 bytes, 4 string, .. 1000 + bits uint, 2000 +
-- bits int, 3000 + bytes fixed bytes"; "uint and int have 8 to 256 bits in eights, fixed bytes 1 to 32".
use Rattle.std.specs.Prelude.{ℕ, ◌+◌, ◌-◌, ◌%◌, Bool, true, cond, ◌&&◌, ◌||◌, eqb, leb, ltb}
use Rattle.limits.specs.Between.{between}
use Rattle.limits.specs.Codes as code

-- (The ABI specification counts bytes and string apart, as dynamic types; the word here says only that no type is
-- inside.) uint and int by their bits, fixed bytes by their bytes
pub data Elementary : Type 0 where
  bool address bytes string : Elementary
  uint int : ℕ → Elementary
  fixed_bytes : ℕ → Elementary

-- "8 to 256 bits in eights"
abbrev pub is_bits : ℕ → Bool
is_bits n = between 8 256 n && eqb (n % 8) 0

-- "fixed bytes 1 to 32"
abbrev pub is_bytes : ℕ → Bool
is_bytes n = between 1 32 n

-- is its width, if it has one, one of question 2's?
unfoldable pub good_width : Elementary → Bool
good_width bool = true
good_width address = true
good_width bytes = true
good_width string = true
good_width (uint n) = is_bits n
good_width (int n) = is_bits n
good_width (fixed_bytes n) = is_bytes n

unfoldable pub code_of : Elementary → ℕ
code_of bool = code.bool
code_of address = code.address
code_of bytes = code.bytes
code_of string = code.string
code_of (uint n) = code.uint + n
code_of (int n) = code.int + n
code_of (fixed_bytes n) = code.fixed_bytes + n

-- is the number the code of such a type? (`name_is_code`, `name_has_width`: a name is the code of a type of good width;
-- `code_is_name`: no other number is; `of_code_lem`: of one type only)
unfoldable pub is_name : ℕ → Bool
is_name c =
    between code.bool code.string c
    || (leb code.uint c && is_bits (c - code.uint))
    || (leb code.int c && is_bits (c - code.int))
    || (leb code.fixed_bytes c && is_bytes (c - code.fixed_bytes))

-- the type that a name's code stands for
unfoldable pub of_code : ℕ → Elementary
of_code c =
    cond (eqb c code.bool) bool
    (cond (eqb c code.address) address
    (cond (eqb c code.bytes) bytes
    (cond (eqb c code.string) string
    (cond (ltb c code.int) (uint (c - code.uint))
    (cond (ltb c code.fixed_bytes) (int (c - code.int))
    (fixed_bytes (c - code.fixed_bytes)))))))
