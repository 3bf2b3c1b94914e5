-- Question 1: "Is the fact table a multiple of 11 with 1 to 16,384 records?"
use Rattle.std.specs.Prelude.{ℕ, ◌*◌, ◌/◌, ◌%◌, ◌≤◌, ◌≡◌, Bool, cond, ◌&&◌, eqb}
use Rattle.limits.specs.Between.{between}
use Rattle.limits.specs.Limits.{record_width, records_max}
use Rattle.limits.specs.Refusal.{taken, number_of}
use Rattle.limits.specs.declared.refusal.Refusal.TheVariants.{NoRecords}

-- is it, for a table of so many numbers?
abbrev pub has_records : ℕ → Bool
has_records numbers = eqb (numbers % record_width) 0 && between 1 records_max (numbers / record_width)

-- the answer by its number and its value, which is the record count, 0 for a refusal
pub record CountAnswer (numbers number count : ℕ) : Type 0 where
  pub number_is : number ≡ cond (has_records numbers) taken (number_of NoRecords)
  pub count_is : count ≡ cond (has_records numbers) (numbers / record_width) 0

-- a table of so many numbers has N records
pub record Counted (numbers N : ℕ) : Type 0 where
  pub is : numbers ≡ N * record_width
  pub some : 1 ≤ N
  pub most : N ≤ records_max
