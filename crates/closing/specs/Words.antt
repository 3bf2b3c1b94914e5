-- The words of the arguments' head (the first words of the call data behind the selector, one for each argument) that a
-- closing fills: "`direct_min_calldata_words`, overridden by `dense_min_calldata_words`, fills the head as in the
-- tail."
use Rattle.std.specs.Prelude.{ℕ, zero, suc, cond, ◌&&◌, List, [], ◌∷◌, eqb, leb, Some, None}
use Rattle.limits.specs.Limits.{kind_array, argument_words_max}
use Rattle.std.specs.declared.option.Option.{Option}
use Rattle.word.specs.declared.U256.{U256}
use Rattle.word.specs.Value.{value_of}
use Rattle.code.specs.Length.{direct_min_calldata_words}
use Rattle.code.specs.Dense.{dense_min_calldata_words}
use Rattle.facts.specs.State.{Node, node_of}
use Rattle.kinds.specs.Kinds.{has_dynamic}
use Rattle.kinds.specs.Fill.{fill}
use Rattle.list.specs.Seen.{children_in, is_empty}

-- "code, start pc and an optional packed word": where the function begins in the code, and the word on top of the stack
-- there, which may hold a checked length
pub record Handed : Type 0 where
  pub code : List ℕ
  pub start : ℕ
  pub packed : Option U256

abbrev pub hand : List ℕ → ℕ → Option U256 → Handed
hand code start packed = record { code = code; start = start; packed = packed }

-- what the packed word says, if there is one
abbrev pub packed_words : List ℕ → ℕ → Option U256 → Option ℕ
packed_words code start None = None
packed_words code start (Some w) = dense_min_calldata_words code start (value_of w)

-- "overridden by"
abbrev pub override : Option ℕ → Option ℕ → Option ℕ
override direct (Some w) = Some w
override direct None = direct

-- the Rust's `min_calldata_words`
abbrev pub min_words : Handed → Option ℕ
min_words h = override (direct_min_calldata_words h.code h.start) (packed_words h.code h.start h.packed)

-- those of the numbers that have a dynamic or an array at or below them
unfoldable pub dynamic_ones : List Node → List ℕ → List ℕ
dynamic_ones s [] = []
dynamic_ones s (r ∷ rs) = cond (has_dynamic s r) (r ∷ dynamic_ones s rs) (dynamic_ones s rs)

-- the Rust's `dynamic_args`
abbrev pub dynamic_args : List Node → List ℕ
dynamic_args s = dynamic_ones s (children_in s 1)

-- `checked_sub(1)`
abbrev pub one_less : ℕ → Option ℕ
one_less zero = None
one_less (suc w) = Some w

-- the words of the head, from the least length: all of them with no dynamic argument; one less with one alone, an array
-- with no child, whose length is a word behind the head; nothing otherwise
abbrev pub head_by : List Node → ℕ → List ℕ → Option ℕ
head_by s w [] = Some w
head_by s w (r ∷ []) = cond (eqb (node_of s r).kind kind_array && is_empty (children_in s r)) (one_less w) None
head_by s w (r ∷ q ∷ rs) = None

-- the Rust's `head_words`
abbrev pub head_words : List Node → Option ℕ → Option ℕ
head_words s None = None
head_words s (Some w) = head_by s w (dynamic_args s)

-- how many are filled: none beyond `MAX_ARGUMENT_WORDS`
abbrev pub fill_count : Option ℕ → ℕ
fill_count None = 0
fill_count (Some w) = cond (leb w argument_words_max) w 0

unfoldable pub fill_words : List Node → Handed → ℕ
fill_words s h = fill_count (head_words s (min_words h))

-- "A closing not refused makes its fill's paths seen."
unfoldable pub filled : List Node → Handed → List Node
filled s h = fill s (fill_words s h)
