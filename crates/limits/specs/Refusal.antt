-- The refusals in the order of the papers: "the first "no" gives its number".
use Rattle.std.specs.Prelude.{ℕ, Ok, Err}
use Rattle.std.specs.declared.result.Result.{Result}
use Rattle.limits.specs.declared.refusal.Refusal.{Refusal}
use Rattle.limits.specs.declared.refusal.Refusal.TheVariants.{NoRecords, Unsound, LongCode, BrokenSizes}
use Rattle.limits.specs.declared.refusal.Refusal.TheVariants.{BrokenLabels, BrokenFields, NoSlot, NoRoom}
use Rattle.limits.specs.declared.refusal.Refusal.TheVariants.{ShortTypes, BadTypes, ShortText}

-- a call that is taken is answered by 0, which is ours
abbrev pub taken : ℕ
taken = 0

-- the one place that gives each refusal its number
abbrev pub number_of : Refusal → ℕ
-- "Is the fact table a multiple of 11 with 1 to 16,384 records?"
number_of NoRecords = 1
-- "Is it sound?"
number_of Unsound = 2
-- "Is the code at most 65,536 bytes?"
number_of LongCode = 3
-- "Are stack and memory whole slots and entries, at most 1,024 each, and the step 59 numbers?"
number_of BrokenSizes = 4
-- "Are all labels and replaced marks well formed, each path of kind 2 or 3 a used record?"
number_of BrokenLabels = 5
-- "Is op at most 255, pick at most the entry count, .."
number_of BrokenFields = 6
-- "Has the stack a slot, if op is CALLDATALOAD, ADD, MUL, SHL, LT, GT, AND, ISZERO or MLOAD?"
number_of NoSlot = 7
-- "Are enough records free for those the step adds?"; the closing's "8, for the records to fill in"
number_of NoRoom = 8
-- "has the type slice 8,192 u16 numbers or more?"
number_of ShortTypes = 9
-- "is the list a whole number of well-formed types, at most 8,192 codes?"
number_of BadTypes = 10
-- "does the text fit?"
number_of ShortText = 11

-- and each answer of a call: the refusal's number, or that of a call that is taken
abbrev pub answer_number : {A : Type 0} → Result A Refusal → ℕ
answer_number (Ok value) = taken
answer_number (Err refusal) = number_of refusal
