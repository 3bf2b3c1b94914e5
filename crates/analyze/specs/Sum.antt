-- ADD.
use Rattle.std.specs.Prelude.{ℕ, ◌+◌, ◌-◌, ◌^◌, Bool, true, cond, not, ◌&&◌, List, eqb, ltb, Option, Some, None}
use Rattle.word.specs.Value.{value_of}
use Rattle.word.specs.Arithmetic.{sum_of}
use Rattle.word.specs.Kept.{kept_of}
use Rattle.word.specs.declared.U256.{U256}
use Rattle.facts.specs.State.{Node}
use Rattle.paths.specs.Depth.{depth_of}
use Rattle.labels.specs.declared.Val.{Val}
use Rattle.labels.specs.declared.Label.{Label}
use Rattle.labels.specs.declared.Label.TheVariants.{Arg}
use Rattle.labels.specs.declared.Step.{Step}
use Rattle.labels.specs.declared.Choice.{Choice}
use Rattle.labels.specs.Operands.{on_arg, choose, is_length}
use Rattle.analyze.specs.declared.OnStack.{OnStack}
use Rattle.analyze.specs.declared.OnStack.TheVariants as stack
use Rattle.analyze.specs.declared.Plan.{Plan}
use Rattle.analyze.specs.Plan.{nothing, one_operation, two_operations, with_stack, mark}

-- the label with another constant added
abbrev pub with_added : Val → ℕ → Label
with_added v added = Arg (record { offset = v.offset; path = v.path; add_val = added; and_mask = v.and_mask })

-- "Two labels: the longer path wins, at equal length the second."
unfoldable pub winner : List Node → Val → Val → Val
winner s f g = cond (ltb (depth_of s g.path) (depth_of s f.path)) f g

-- the top labelled with a sum "kept if below 2^32"; one that is not kept leaves the top as it was (decision D8)
abbrev pub kept_label : Val → Option ℕ → OnStack
kept_label v None = stack.Keep
kept_label v (Some sum) = stack.Label (with_added v sum)

-- both operands are arguments: `f_add_val.checked_add(s_add_val)`
unfoldable pub add_both : List Node → Val → Val → Plan
add_both s f g =
    with_stack (two_operations (mark f) (mark g)) (kept_label (winner s f g) (kept_of (f.add_val + g.add_val)))

-- `sub(-1) as add(0xff..ff)`: a length that is zero, and 2^256 - 1 added to it (decision D70)
unfoldable pub is_less_one : Val → U256 → U256 → Bool
is_less_one v own other = is_length v && not (eqb v.path 1) && eqb (value_of own) 0 && eqb (value_of other) (2 ^ 256 - 1)

-- the top's word is 0 then, beside the label of a sum that was kept; as 2^256 - 1 is not kept, the second case never
-- comes up
abbrev pub zero_beside : Val → Option ℕ → OnStack
zero_beside v None = stack.Word 0
zero_beside v (Some sum) = stack.WordLabel 0 (with_added v sum)

-- "Adding a constant: sums are taken modulo 2^256, then kept if below 2^32."
unfoldable pub add_constant : Val → U256 → U256 → OnStack
add_constant v own other =
    let sum = kept_of (sum_of (value_of other) v.add_val) in
    cond (is_less_one v own other) (zero_beside v sum) (kept_label v sum)

-- at most one operand is an argument
abbrev pub add_one : Option Choice → Plan
add_one None = nothing
add_one (Some k) = with_stack (one_operation (mark k.val)) (add_constant k.val k.own k.other.word)

unfoldable pub add : List Node → Step → Plan
add s x =
    let lone = add_one (choose (λ v. true) x.first x.second) in
    on_arg x.first.label (λ f. on_arg x.second.label (λ g. add_both s f g) lone) lone
