-- What a multiplier of a length says: 1 and 2 are told apart (they name bytes and string in the Rust), and "A
-- multiplier is an array mark if it is a multiple of 32 from 32 to 3,168 and the path isn't the root"; the caller asks
-- for the path.
use Rattle.std.specs.Prelude.{ℕ, ◌*◌, ◌/◌, ◌%◌, Bool, cond, ◌&&◌, ◌==◌}
use Rattle.limits.specs.Between.{between}
use Rattle.limits.specs.Limits.{word_bytes, array_count_max}
use Rattle.word.specs.declared.Multiplier.{Multiplier}
use Rattle.word.specs.declared.Multiplier.TheVariants.{One, Two, Array, Other}

-- "a multiple of 32 from 32 to 3,168", which is 32 times the largest count
unfoldable pub is_array_mark : ℕ → Bool
is_array_mark m = m % word_bytes == 0 && between word_bytes (word_bytes * array_count_max) m

unfoldable pub multiplier_of : ℕ → Multiplier
multiplier_of m = cond (m == 1) One (cond (m == 2) Two (cond (is_array_mark m) (Array (m / word_bytes)) Other))
