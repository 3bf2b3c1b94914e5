-- Lengths: MUL and SHL of one, and its comparisons.
use Rattle.std.specs.Prelude.{ℕ, ◌+◌, ◌*◌, ◌/◌, ◌%◌, Bool, true, false, cond, ◌&&◌, ◌||◌, List, eqb, Option, Some, None}
use Rattle.limits.specs.Between.{between}
use Rattle.limits.specs.Codes as code
use Rattle.limits.specs.Confidences.{by_bytes, by_the_rest}
use Rattle.limits.specs.Limits.{word_bytes}
use Rattle.word.specs.Value.{value_of}
use Rattle.word.specs.Arithmetic.{power_of}
use Rattle.word.specs.Multiplier.{multiplier_of}
use Rattle.word.specs.declared.Multiplier.{Multiplier}
use Rattle.word.specs.declared.Multiplier.TheVariants.{One, Two, Array, Other}
use Rattle.opcode.specs.Opcode.{LT}
use Rattle.code.specs.Guard.{guard_failure_pc}
use Rattle.facts.specs.State.{Node, node_of}
use Rattle.marks.specs.Hints.{has_range_hint}
use Rattle.labels.specs.declared.Val.{Val}
use Rattle.labels.specs.declared.Label.{Label}
use Rattle.labels.specs.declared.Step.{Step}
use Rattle.labels.specs.declared.Choice.{Choice}
use Rattle.labels.specs.Operands.{on_arg, choose, is_length, is_unmasked_length}
use Rattle.operations.specs.declared.Operation.{Operation}
use Rattle.operations.specs.declared.Operation.TheVariants.{Nothing, MarkNotBool, SetTname, SetArray}
use Rattle.analyze.specs.declared.OnStack.TheVariants as stack
use Rattle.analyze.specs.declared.InMemory.TheVariants as memory
use Rattle.analyze.specs.declared.Plan.{Plan}
use Rattle.analyze.specs.Plan.{nothing, one_operation, three_operations, with_stack, with_memory, mark, mark_and_name}

-- the length at a path marked, then the other operand's argument, and one operation more
abbrev pub mark_length : ℕ → Label → Operation → Plan
mark_length path other more = three_operations (MarkNotBool path 0) (on_arg other (λ w. mark w) Nothing) more

-- a name for the path itself: `path.split_last()` and `set_tname(rest, *last, ..)`
abbrev pub name_path : List Node → ℕ → ℕ → ℕ → Operation
name_path s path name confidence = SetTname (node_of s path).parent (node_of s path).key name confidence

-- an array mark writes the word 1 to each slot and entry that holds the length, and the multiplier to the top
abbrev pub with_ones : Plan → ℕ → ℕ → Plan
with_ones p path word = with_memory (with_stack p (stack.Ones path word)) (memory.Ones path)

-- what a multiplier says of the path: 1 bytes, 2 string, an array mark
abbrev pub multiplied : List Node → ℕ → Label → Multiplier → Plan
multiplied s path other One = mark_length path other (name_path s path code.bytes by_bytes)
multiplied s path other Two = mark_length path other (name_path s path code.string by_the_rest)
multiplied s path other (Array count) = with_ones (mark_length path other (SetArray path count)) path (word_bytes * count)
multiplied s path other Other = mark_length path other Nothing

-- MUL and SHL of the length at a path by a factor, beside the other operand's label: "and the path isn't the root"
unfoldable pub multiply : List Node → ℕ → Label → ℕ → Plan
multiply s path other factor =
    cond (eqb path 1) (mark_length path other Nothing) (multiplied s path other (multiplier_of factor))

-- the general arm of LT, GT and MUL takes the first operand that is an argument and leaves it under a range name
-- (decision D12)
unfoldable pub unless_range : List Node → Val → Plan
unless_range s v = cond (has_range_hint s v.path v.offset) nothing (one_operation (mark v))

abbrev pub mark_first : List Node → Option Choice → Plan
mark_first s None = nothing
mark_first s (Some k) = unless_range s k.val

-- MUL: of a length, or the general arm
abbrev pub mul_by : List Node → Option Choice → Option Choice → Plan
mul_by s (Some k) general = multiply s k.val.path k.other.label (value_of k.other.word)
mul_by s None general = mark_first s general

unfoldable pub mul : List Node → Step → Plan
mul s x = mul_by s (choose is_length x.first x.second) (choose (λ v. true) x.first x.second)

-- does `guard_failure_pc` name a place?
abbrev pub is_place : Option ℕ → Bool
is_place (Some place) = true
is_place None = false

-- a guarded SHL of an argument by whole bytes checks its type: the bytes, 1 to 32, if the shift is such a check
-- (decision D71)
unfoldable pub bytes_shift : List ℕ → ℕ → ℕ → Option ℕ
bytes_shift bytes pc shift =
    cond (is_place (guard_failure_pc bytes pc true) && between 8 256 shift && eqb (shift % 8) 0) (Some (shift / 8)) None

abbrev pub bytes_named : Val → Option ℕ → Plan
bytes_named v None = one_operation (mark v)
bytes_named v (Some n) = mark_and_name v (code.fixed_bytes + n) by_the_rest

-- SHL: path root and active is an arm of its own, for any offset and added value; otherwise only offset 0 and added 0,
-- which multiplies (decision D9)
unfoldable pub shl_of : List Node → Bool → List ℕ → Step → Val → Plan
shl_of s active bytes x v =
    cond (eqb v.path 1 && active)
    (bytes_named v (bytes_shift bytes x.pc (value_of x.first.word)))
    (cond (is_length v) (multiply s v.path x.first.label (power_of (value_of x.first.word))) nothing)

unfoldable pub shl : List Node → Bool → List ℕ → Step → Plan
shl s active bytes x = on_arg x.second.label (λ v. shl_of s active bytes x v) nothing

-- `0 < arr.len || arr.len > 0`, and 31 (`mod.rs`: "= string for storage"): the top's word is 1 then
unfoldable pub compares_length : ℕ → Bool
compares_length bound = eqb bound 0 || eqb bound 31

abbrev pub length_compared : ℕ → ℕ → Plan
length_compared path bound =
    with_stack (one_operation (MarkNotBool path 0)) (cond (compares_length bound) (stack.Word 1) stack.Keep)

-- the length arm of LT (second operand) and GT (first operand) comes before the general arm (decision D11); for that
-- operand's label and the other's word, beside the general arm's choice
unfoldable pub compare_with : List Node → Label → ℕ → Option Choice → Plan
compare_with s l bound general =
    on_arg l (λ v. cond (is_unmasked_length v) (length_compared v.path bound) (mark_first s general))
    (mark_first s general)

unfoldable pub compare : List Node → Step → Plan
compare s x =
    let general = choose (λ v. true) x.first x.second in
    cond (eqb x.op LT)
    (compare_with s x.second.label (value_of x.first.word) general)
    (compare_with s x.first.label (value_of x.second.word) general)
