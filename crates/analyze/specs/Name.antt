-- The arms that name an argument or label the top alone, in the Rust's order. Operands are those of the Rust's
-- `StepResult::args` (labels/specs/Step.antt).
use Rattle.std.specs.Prelude.{ℕ, ◌+◌, ◌*◌, ◌%◌, Bool, true, cond, ◌&&◌, List, eqb, ltb, Option, Some, None}
use Rattle.limits.specs.Between.{between}
use Rattle.limits.specs.Codes as code
use Rattle.limits.specs.Confidences.{by_byte, by_and_or_is_zero, by_sdiv_or_smod, by_mstore8, by_the_rest}
use Rattle.limits.specs.Limits.{word_bytes, address_bits}
use Rattle.word.specs.Value.{value_of}
use Rattle.word.specs.declared.U256.{U256}
use Rattle.mask.specs.Mask.{and_mask_to_type}
use Rattle.code.specs.Guard.{guard_failure_pc, is_division_check}
use Rattle.labels.specs.declared.Val.{Val}
use Rattle.labels.specs.declared.Label.{Label}
use Rattle.labels.specs.declared.Label.TheVariants.{Unlabelled, CallData, Arg, IsZeroResult}
use Rattle.labels.specs.declared.Step.{Step}
use Rattle.labels.specs.declared.Choice.{Choice}
use Rattle.labels.specs.Operands.{on_arg, is_unmasked, choose, same_arg}
use Rattle.analyze.specs.declared.OnStack.TheVariants as stack
use Rattle.analyze.specs.declared.Plan.{Plan}
use Rattle.analyze.specs.Plan.{nothing, one_operation, with_stack, label_top, mark, name_as, mark_and_name}
use Rattle.analyze.specs.Length.{is_place}

-- CALL, CALLCODE, DELEGATECALL, STATICCALL: the first operand is an address
unfoldable pub call : Step → Plan
call x = on_arg x.first.label (λ v. mark_and_name v code.address by_the_rest) nothing

-- MSTORE8: its first operand is uint8 (decision D16)
unfoldable pub mstore8 : Step → Plan
mstore8 x = on_arg x.first.label (λ v. mark_and_name v (code.uint + 8) by_mstore8) nothing

-- the name that a guarded SHR by `width` gives, none for other widths (decision D72)
unfoldable pub width_name : ℕ → ℕ
width_name width =
    cond (eqb width 1) code.bool
    (cond (eqb width address_bits) code.address
    (cond (between 1 255 width && eqb (width % 8) 0) (code.uint + width) code.no_name))

-- a name, if it is one
abbrev pub name_if : Val → ℕ → ℕ → Plan
name_if v t confidence = cond (eqb t code.no_name) nothing (one_operation (name_as v t confidence))

-- SHR, while the decoder is active (`mod.rs`: "Vyper validates narrow ABI scalars by rejecting non-zero high bits")
unfoldable pub shr : Bool → List ℕ → Step → Plan
shr active bytes x =
    on_arg x.second.label
    (λ v. cond (active && is_place (guard_failure_pc bytes x.pc true))
    (name_if v (width_name (value_of x.first.word)) by_the_rest)
    nothing)
    nothing

-- SDIV and SMOD touch the first operand that is an argument, and no other (decision D14); int256
abbrev pub signed_first : Option Choice → Plan
signed_first None = nothing
signed_first (Some k) = mark_and_name k.val (code.int + 256) by_sdiv_or_smod

unfoldable pub signed : Step → Plan
signed x = signed_first (choose (λ v. true) x.first x.second)

-- the label with that mask
abbrev pub with_mask : Val → U256 → Label
with_mask v mask =
    Arg (record { offset = v.offset; path = v.path; add_val = v.add_val; and_mask = Some mask })

-- AND takes the first operand that is an unmasked argument; a mask that gives no type leaves the mark and puts no label
-- (decision D13)
abbrev pub masked : Val → U256 → ℕ → Plan
masked v mask t =
    cond (eqb t code.no_name) (one_operation (mark v))
    (with_stack (mark_and_name v t by_and_or_is_zero) (stack.Label (with_mask v mask)))

abbrev pub and_first : Option Choice → Plan
and_first None = nothing
and_first (Some k) = masked k.val k.other.word (and_mask_to_type (value_of k.other.word))

unfoldable pub and : Step → Plan
and x = and_first (choose (λ v. is_unmasked v.and_mask) x.first x.second)

-- EQ of an argument v and the same one masked, w: the mask's type
unfoldable pub eq_masked : Val → Val → Option U256 → Plan
eq_masked v w None = nothing
eq_masked v w (Some mask) = cond (same_arg v w) (name_if v (and_mask_to_type (value_of mask)) by_the_rest) nothing

-- the masked one may stand first or second
unfoldable pub eq_both : Val → Val → Plan
eq_both v w =
    cond (is_unmasked v.and_mask) (eq_masked v w w.and_mask)
    (cond (is_unmasked w.and_mask) (eq_masked w v v.and_mask) nothing)

unfoldable pub eq : Step → Plan
eq x = on_arg x.first.label (λ v. on_arg x.second.label (λ w. eq_both v w) nothing) nothing

-- ISZERO of an argument makes the top a zero test; of a zero test, a double ISZERO, it is a bool's check, unless it
-- checks a divisor for 0 (`mod.rs`: "Detect check for 0 in DIV, it's not bool in that case")
abbrev pub zero_tested : List ℕ → ℕ → Label → Plan
zero_tested bytes pc Unlabelled = nothing
zero_tested bytes pc CallData = nothing
zero_tested bytes pc (Arg v) = label_top (IsZeroResult v)
zero_tested bytes pc (IsZeroResult v) =
    cond (is_division_check bytes pc) nothing (one_operation (name_as v code.bool by_and_or_is_zero))

unfoldable pub is_zero : List ℕ → Step → Plan
is_zero bytes x = zero_tested bytes x.pc x.first.label

-- SIGNEXTEND: int of one byte more than the first operand says, if that is below 32
unfoldable pub sign_extend : Step → Plan
sign_extend x =
    on_arg x.second.label
    (λ v. cond (ltb (value_of x.first.word) word_bytes)
    (one_operation (name_as v (code.int + (value_of x.first.word + 1) * 8) by_the_rest))
    nothing)
    nothing

-- BYTE: fixed bytes of 32
unfoldable pub byte : Step → Plan
byte x = on_arg x.second.label (λ v. one_operation (name_as v (code.fixed_bytes + 32) by_byte)) nothing

-- MLOAD copies a load label of kind 2 only (decision D15)
unfoldable pub mload : Step → Plan
mload x = on_arg x.load (λ v. label_top (Arg v)) nothing
