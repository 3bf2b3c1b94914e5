-- "packed flag, packed word (eight numbers, present at flag 0 too)": what the header says of a packed word.
use Rattle.std.specs.Prelude.{ℕ, cond, List, Option, Some, None, eqb, get_or}
use Rattle.limits.specs.Input.{header_flag, header_packed}
use Rattle.word.specs.Numbers.{limbs_at}
use Rattle.word.specs.declared.U256.{U256}

-- the packed word, absent at flag 0
abbrev pub packed_in : List ℕ → Option U256
packed_in header = cond (eqb (get_or header header_flag 0) 0) None (Some (limbs_at header header_packed))
