-- CALLDATALOAD and CALLDATACOPY: the Rust's first two arms.
use Rattle.std.specs.Prelude.{ℕ, ◌-◌, ◌*◌, ◌/◌, ◌%◌, Bool, cond, ◌&&◌, List, eqb, leb}
use Rattle.limits.specs.Between.{between}
use Rattle.limits.specs.Codes as code
use Rattle.limits.specs.Confidences.{by_bytes}
use Rattle.limits.specs.Limits.{word_bytes, selector_bytes, load_max}
use Rattle.word.specs.Value.{value_of}
use Rattle.opcode.specs.Opcode.{CALLDATALOAD}
use Rattle.facts.specs.State.{Node}
use Rattle.kinds.specs.Kinds.{arrays_in_path}
use Rattle.labels.specs.declared.Val.{Val}
use Rattle.labels.specs.declared.Step.{Step}
use Rattle.labels.specs.Operands.{on_arg}
use Rattle.operations.specs.declared.Operation.{Operation}
use Rattle.operations.specs.declared.Operation.TheVariants.{Nothing, GetOrCreate, SetDynamic}
use Rattle.analyze.specs.declared.OnStack.TheVariants as stack
use Rattle.analyze.specs.declared.InMemory.TheVariants as memory
use Rattle.analyze.specs.declared.Plan.{Plan}
use Rattle.analyze.specs.Plan.{nothing, one_operation, two_operations, with_stack, with_memory, name_as, loaded_arg}

-- `add_val >= 4 && (add_val - 4) % 32 == 0`: a labelled load is followed behind the selector, at whole words, and does
-- nothing elsewhere (decision D5)
unfoldable pub is_whole_word : ℕ → Bool
is_whole_word added = leb selector_bytes added && eqb ((added - selector_bytes) % word_bytes) 0

-- what is taken off for arrays on the path: 32 for each, unless 4 is added or what is added behind the selector is less
-- than their sum (decision D6)
unfoldable pub arrays_off : ℕ → ℕ → ℕ
arrays_off arrays added =
    cond (eqb added selector_bytes) 0 (cond (leb (word_bytes * arrays) (added - selector_bytes)) (word_bytes * arrays) 0)

-- the Rust's `new_off`
unfoldable pub new_offset : List Node → Val → ℕ
new_offset s v = v.add_val - selector_bytes - arrays_off (arrays_in_path s v.path) v.add_val

-- is it loaded to the stack?
abbrev pub to_stack : Step → Bool
to_stack x = eqb x.op CALLDATALOAD

-- `args.set_info(&full_path, InfoVal::Dynamic(new_off / 32))`
abbrev pub follow : Val → ℕ → Operation
follow v offset = SetDynamic v.path v.offset (offset / word_bytes)

-- what is copied to the entry that was picked is bytes; the dynamic mark is set with pick 0 too, bytes and the label
-- need a pick (decision D7)
abbrev pub name_copied : ℕ → Val → Operation
name_copied pick v = cond (eqb pick 0) Nothing (name_as v code.bytes by_bytes)

-- a labelled load: the full path is dynamic, and what was loaded is labelled with it and the new offset
abbrev pub followed : Step → Val → ℕ → Plan
followed x v offset =
    cond (to_stack x)
    (with_stack (one_operation (follow v offset)) (stack.Loaded offset))
    (with_memory (two_operations (follow v offset) (name_copied x.pick v)) (memory.Loaded x.pick offset))

unfoldable pub labelled_load : List Node → Step → Val → Plan
labelled_load s x v = cond (is_whole_word v.add_val) (followed x v (new_offset s v)) nothing

-- "A load whose first operand is no argument label (an unlabelled load) is followed for offsets 4 to 130,047."
unfoldable pub is_followed : ℕ → Bool
is_followed offset = between selector_bytes load_max offset

-- the argument at a key of the root is known, and what was loaded is labelled with it
abbrev pub found : Step → ℕ → Plan
found x key =
    cond (to_stack x)
    (with_stack (one_operation (GetOrCreate 1 key)) (stack.Label (loaded_arg key 1)))
    (with_memory (one_operation (GetOrCreate 1 key)) (memory.Label x.pick (loaded_arg key 1)))

unfoldable pub unlabelled_load : Step → ℕ → Plan
unlabelled_load x offset = cond (is_followed offset) (found x (offset - selector_bytes)) nothing

unfoldable pub load : List Node → Step → Plan
load s x = on_arg x.first.label (λ v. labelled_load s x v) (unlabelled_load x (value_of x.first.word))
