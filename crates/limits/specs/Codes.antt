-- "Names and type codes: 1 bool, 2 address, 3 bytes, 4 string, 5 array (its element follows), 1000 + bits uint, 2000 +
-- bits int, 3000 + bytes fixed bytes, 16384 + n a tuple of n types that follow (n at least 2). A record's name is 0 or
-- a code other than 5 and tuples." What is added to uint, int, fixed_bytes and tuple is said there.
use Rattle.std.specs.Prelude.{ℕ}

abbrev pub no_name : ℕ
no_name = 0

abbrev pub bool : ℕ
bool = 1

abbrev pub address : ℕ
address = 2

abbrev pub bytes : ℕ
bytes = 3

abbrev pub string : ℕ
string = 4

abbrev pub array : ℕ
array = 5

abbrev pub uint : ℕ
uint = 1000

abbrev pub int : ℕ
int = 2000

abbrev pub fixed_bytes : ℕ
fixed_bytes = 3000

abbrev pub tuple : ℕ
tuple = 16384
