-- A step as data: the operations of the Rust's `ArgsResult` that it runs on the state, in order, and what it writes to
-- the stack and to the memory (decision D20).
use Rattle.std.specs.Prelude.{ℕ, Bool, cond, not, ◌&&◌, List, [], ◌∷◌, eqb, None}
use Rattle.limits.specs.Limits.{kind_array}
use Rattle.facts.specs.State.{Node, node_of}
use Rattle.paths.specs.Make.{ensure}
use Rattle.labels.specs.declared.Val.{Val}
use Rattle.labels.specs.declared.Label.{Label}
use Rattle.labels.specs.declared.Label.TheVariants.{Arg}
use Rattle.labels.specs.Stack.{with_top_label, with_top_word, with_pick_label, with_pick_one, stack_ones, memory_ones}
use Rattle.operations.specs.declared.Operation.{Operation}
use Rattle.operations.specs.declared.Operation.TheVariants.{Nothing, ClearRangeHint, ClearRangeHints, MarkNotBool}
use Rattle.operations.specs.declared.Operation.TheVariants.{InsertNotBool, GetOrCreate, SetTname, SetDynamic, SetArray}
use Rattle.analyze.specs.declared.OnStack.{OnStack}
use Rattle.analyze.specs.declared.OnStack.TheVariants as stack
use Rattle.analyze.specs.declared.InMemory.{InMemory}
use Rattle.analyze.specs.declared.InMemory.TheVariants as memory
use Rattle.analyze.specs.declared.Plan.{Plan}
use Rattle.analyze.specs.declared.Hints.{Hints}

-- a plan of so many operations that writes to neither
abbrev pub three_operations : Operation → Operation → Operation → Plan
three_operations a b c = record { first = a; second = b; third = c; stack = stack.Keep; memory = memory.Keep }

abbrev pub two_operations : Operation → Operation → Plan
two_operations a b = three_operations a b Nothing

abbrev pub one_operation : Operation → Plan
one_operation a = two_operations a Nothing

abbrev pub nothing : Plan
nothing = one_operation Nothing

-- one that writes to the stack, or to the memory
abbrev pub with_stack : Plan → OnStack → Plan
with_stack p w = record { first = p.first; second = p.second; third = p.third; stack = w; memory = p.memory }

abbrev pub with_memory : Plan → InMemory → Plan
with_memory p w = record { first = p.first; second = p.second; third = p.third; stack = p.stack; memory = w }

-- one that only labels the top anew
abbrev pub label_top : Label → Plan
label_top l = with_stack nothing (stack.Label l)

-- the Rust's operations on what a label says: `args.mark_not_bool(&path, offset)`
abbrev pub mark : Val → Operation
mark v = MarkNotBool v.path v.offset

-- `args.set_tname(&path, offset, tname, confidence)`
abbrev pub name_as : Val → ℕ → ℕ → Operation
name_as v code confidence = SetTname v.path v.offset code confidence

-- both, in this order
abbrev pub mark_and_name : Val → ℕ → ℕ → Plan
mark_and_name v code confidence = two_operations (mark v) (name_as v code confidence)

-- the operations of the phases, in order
abbrev pub hint_operations : Hints → List Operation
hint_operations h = h.first ∷ h.second ∷ []

abbrev pub operations : Plan → List Operation
operations p = p.first ∷ p.second ∷ p.third ∷ []

-- the number of the path that a labelled load makes dynamic, 0 for any other operation
abbrev pub loaded_path : List Node → Operation → ℕ
loaded_path s Nothing = 0
loaded_path s (ClearRangeHint p k block) = 0
loaded_path s ClearRangeHints = 0
loaded_path s (MarkNotBool p k) = 0
loaded_path s (InsertNotBool p k) = 0
loaded_path s (GetOrCreate p k) = 0
loaded_path s (SetTname p k code confidence) = 0
loaded_path s (SetDynamic p k count) = (ensure s p k).number
loaded_path s (SetArray r count) = 0

-- `*args.array_in_path(&full_path).last()`, of the state after the operations
abbrev pub is_array : List Node → ℕ → Bool
is_array s r = not (eqb r 0) && eqb (node_of s r).kind kind_array

-- the label of an argument, nothing added and no mask
abbrev pub loaded_arg : ℕ → ℕ → Label
loaded_arg offset path = Arg (record { offset = offset; path = path; add_val = 0; and_mask = None })

-- the stack after a step. path is the path that a labelled load found, and array says whether it is an array: the load
-- of offset 0 is then its length, which becomes 1. An array mark: every slot and entry of kind 2, offset 0, that path,
-- added 0, masked or not, gets the word 1; then the top gets the multiplier (decision D10)
unfoldable pub write_stack : OnStack → ℕ → Bool → List ℕ → List ℕ
write_stack stack.Keep path array s = s
write_stack (stack.Word n) path array s = with_top_word s n
write_stack (stack.Label l) path array s = with_top_label s l
write_stack (stack.WordLabel n l) path array s = with_top_label (with_top_word s n) l
write_stack (stack.Loaded offset) path array s =
    with_top_label (cond (eqb offset 0 && array) (with_top_word s 1) s) (loaded_arg offset path)
write_stack (stack.Ones marked word) path array s = with_top_word (stack_ones marked s) word

-- the memory after it
unfoldable pub write_memory : InMemory → ℕ → Bool → List ℕ → List ℕ
write_memory memory.Keep path array s = s
write_memory (memory.Label pick l) path array s = with_pick_label s pick l
write_memory (memory.Loaded pick offset) path array s =
    with_pick_label (cond (eqb offset 0 && array) (with_pick_one s pick) s) pick (loaded_arg offset path)
write_memory (memory.Ones marked) path array s = memory_ones marked s
