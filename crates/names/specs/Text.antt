-- The canonical names of the ABI specification ("Types").
use Rattle.std.specs.Prelude.{ℕ, List, ◌++◌}
use Rattle.names.specs.Ascii.{ascii}
use Rattle.names.specs.Decimal.{decimal}
use Rattle.names.specs.Elementary.{Elementary, bool, address, bytes, string, uint, int, fixed_bytes}

-- "bool", "address", "bytes", "string", "uint<M>", "int<M>", "bytes<M>"
unfoldable pub name_text : Elementary → List ℕ
name_text bool = ascii "bool"
name_text address = ascii "address"
name_text bytes = ascii "bytes"
name_text string = ascii "string"
name_text (uint n) = ascii "uint" ++ decimal n
name_text (int n) = ascii "int" ++ decimal n
name_text (fixed_bytes n) = ascii "bytes" ++ decimal n
