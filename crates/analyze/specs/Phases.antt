-- The phases before the arms: "hints cleared, range rule, decoder phase".
use Rattle.std.specs.Prelude.{ℕ, ◌+◌, Bool, false, cond, not, ◌&&◌, ◌||◌, List, eqb, Option, None, Some}
use Rattle.limits.specs.Codes as code
use Rattle.limits.specs.Confidences.{by_range}
use Rattle.word.specs.Value.{value_of}
use Rattle.word.specs.Range.{is_range_bound}
use Rattle.word.specs.declared.U256.{U256}
use Rattle.opcode.specs.Opcode.{LT, GT, EQ, REVERT}
use Rattle.opcode.specs.Lists.{listed, operand_clearers, decoder_enders}
use Rattle.code.specs.Guard.{is_empty_revert_guard}
use Rattle.labels.specs.declared.Val.{Val}
use Rattle.labels.specs.declared.Label.{Label}
use Rattle.labels.specs.declared.Step.{Step}
use Rattle.labels.specs.Operands.{on_arg, is_arg, is_unlabelled, is_unmasked}
use Rattle.operations.specs.declared.Operation.{Operation}
use Rattle.operations.specs.declared.Operation.TheVariants.{Nothing, ClearRangeHint, ClearRangeHints, InsertNotBool}
use Rattle.analyze.specs.declared.Comparison.{Comparison}
use Rattle.analyze.specs.declared.Plan.{Plan}
use Rattle.analyze.specs.declared.Hints.{Hints}
use Rattle.analyze.specs.Plan.{nothing, two_operations, name_as}

abbrev pub both : Operation → Operation → Hints
both a b = record { first = a; second = b }

-- the hint of one operand cleared, and blocked if asked: `args.clear_range_hint(val, block)`
abbrev pub clear : Label → Bool → Operation
clear l block = on_arg l (λ v. ClearRangeHint v.path v.offset block) Nothing

-- EQ of two argument labels blocks both (decision D4): are EQ's operands both arguments, be it one and the same?
abbrev pub compares_words : Step → Bool
compares_words x = eqb x.op EQ && is_arg x.first.label && is_arg x.second.label

-- the hints of both operands, at DIV, MOD, SUB, EXP, EQ, ISZERO, JUMPI and SLOAD; at EQ only where both are arguments
unfoldable pub clear_operands : Step → Hints
clear_operands x =
    cond (listed x.op operand_clearers && (not (eqb x.op EQ) || compares_words x))
    (both (clear x.first.label (compares_words x)) (clear x.second.label (compares_words x)))
    (both Nothing Nothing)

-- hints cleared: those of the operands, and all of them at a REVERT while the decoder is active (decision D73)
unfoldable pub hints_of : Bool → Step → Hints
hints_of active x = cond (eqb x.op REVERT && active) (both ClearRangeHints Nothing) (clear_operands x)

-- does the comparison of v with that bound name a range? Added 0, unmasked, offset not 0 unless the path is the root
-- (decision D2). less_than: it is value < bound
unfoldable pub names_range : List ℕ → ℕ → Val → U256 → Bool → Bool
names_range bytes pc v bound less_than =
    eqb v.add_val 0 && is_unmasked v.and_mask && (not (eqb v.offset 0) || eqb v.path 1)
    && is_range_bound (value_of bound) less_than && is_empty_revert_guard bytes pc less_than

-- the comparison by its orientation: value < bound is LT with the argument first or GT with it second (decision D1);
-- the other operand has label kind 0 (decision D2)
unfoldable pub comparison_of : Step → Option Comparison
comparison_of x =
    cond (is_unlabelled x.second.label)
    (on_arg x.first.label (λ v. Some (record { val = v; bound = x.second.word; less_than = eqb x.op LT })) None)
    (cond (is_unlabelled x.first.label)
    (on_arg x.second.label (λ v. Some (record { val = v; bound = x.first.word; less_than = eqb x.op GT })) None)
    None)

-- f of what is compared; otherwise d
abbrev pub on_comparison : {A : Type 0} → Option Comparison → (Val → U256 → Bool → A) → A → A
on_comparison None f d = d
on_comparison (Some c) f d = f c.val c.bound c.less_than

-- does the range rule apply? "the step then stops"
unfoldable pub range_rule : Bool → List ℕ → Step → Bool
range_rule active bytes x =
    active && (eqb x.op LT || eqb x.op GT) && on_comparison (comparison_of x) (names_range bytes x.pc) false

-- "Range rule: a bound of 1 to 255 inclusive (LT's own bound is one more) before an empty revert names uint8 at 6 and
-- marks not-bool"; the mark is set directly, since `mark_not_bool` would drop the new name (decision D3)
abbrev pub name_range : Val → U256 → Bool → Plan
name_range v bound less_than = two_operations (name_as v (code.uint + 8) by_range) (InsertNotBool v.path v.offset)

-- what it does
unfoldable pub range_plan : Step → Plan
range_plan x = on_comparison (comparison_of x) name_range nothing

-- the decoder's phase: "Each of SLOAD, .. and LOG0 to LOG4 ends the decoder phase."
unfoldable pub active_after : Bool → Step → Bool
active_after active x = active && not (listed x.op decoder_enders)
