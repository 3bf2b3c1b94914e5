-- The list: the Rust's `to_alloy_type` over the facts, as types.
use Rattle.std.specs.Prelude.{ℕ, zero, suc, ◌-◌, ◌*◌, max, Bool, cond, not, ◌&&◌, ◌||◌, List, eqb, length}
use Rattle.limits.specs.Codes as code
use Rattle.limits.specs.Limits.{word_bytes, kind_dynamic, kind_array}
use Rattle.names.specs.Elementary.{bytes, uint, of_code}
use Rattle.types.specs.Tree.{AbiType, AbiTypes, elementary, array, tuple, nil, cons}
use Rattle.facts.specs.State.{Node, node_of}
use Rattle.paths.specs.Find.{find_in}
use Rattle.list.specs.Seen.{children_in, is_empty, is_lone_kindless, last_key, last_word}

-- what the Rust gives where nothing is known: `DynSolType::Uint(256)`
abbrev pub uint256 : AbiType
uint256 = elementary (uint 256)

-- is the name the type? bytes with kind none or dynamic 1, whatever the children; any other name with no children and
-- kind none or dynamic. (The Rust lets bytes hold with an array of count 0 too, which question 2 refuses: decision
-- D44.)
unfoldable pub name_holds : Node → Bool → Bool
name_holds n childless =
    cond (eqb n.name code.bytes)
    (eqb n.kind 0 || (eqb n.kind kind_dynamic && eqb n.count 1))
    (not (eqb n.name code.no_name) && childless && not (eqb n.kind kind_array))

-- `end_key`: the larger of the last key and 32 times the count
unfoldable pub end_key : List Node → ℕ → ℕ
end_key s r = max (last_key s r) (word_bytes * (node_of s r).count)

-- the word of `start_key`: "giving an array an entry for its child at key 0" is ruled out
abbrev pub start_word : Node → ℕ
start_word n = cond (eqb n.kind kind_array) 1 0

-- how many words there are from `start_key` to `end_key`, both counted (`last_word_is`: the end is in the last word)
abbrev pub word_count : List Node → ℕ → ℕ
word_count s r = suc (last_word s r) - start_word (node_of s r)

-- the types of the words as one: a single one is itself, more are a tuple. (No word at all is never asked: an array's
-- count is 1 at least.)
abbrev pub together : AbiTypes → AbiType
together nil = uint256
together (cons t nil) = t
together (cons t (cons u ts)) = tuple (cons t (cons u ts))

-- `q[1]`, of two words and more
abbrev pub second : AbiTypes → AbiType
second nil = uint256
second (cons t nil) = uint256
second (cons t (cons u ts)) = u

-- the type by kind, from the types q of the words
unfoldable pub by_kind : List Node → ℕ → AbiTypes → AbiType
by_kind s r q =
    cond (eqb (node_of s r).kind kind_array) (array (together q))
    (cond (eqb (node_of s r).kind kind_dynamic && eqb (end_key s r) 0 && is_empty (children_in s r)) (elementary bytes)
    (cond (eqb (node_of s r).kind kind_dynamic && eqb (end_key s r) word_bytes && is_empty (children_in s r)) (array uint256)
    (cond (eqb (node_of s r).kind kind_dynamic && eqb (end_key s r) word_bytes && is_lone_kindless s (children_in s r))
    (array (second q))
    (together q))))

-- has r a seen child at the word? "giving a child at a key such as 33 an entry with its own type" is ruled out
abbrev pub has_word : List Node → ℕ → ℕ → Bool
has_word s r w = not (eqb (find_in s r (word_bytes * w)) 0) && eqb (node_of s (find_in s r (word_bytes * w))).seen 1

-- the types of n words from word w on below r, a child's by `type`
unfoldable pub words_with : (ℕ → AbiType) → List Node → ℕ → ℕ → ℕ → AbiTypes
words_with type s r w zero = nil
words_with type s r w (suc n) =
    cons (cond (has_word s r w) (type (find_in s r (word_bytes * w))) uint256) (words_with type s r (suc w) n)

-- the type of a fact other than the root; d is as many levels as there can be
unfoldable pub type_at : ℕ → List Node → ℕ → AbiType
type_at zero s r = uint256
type_at (suc d) s r =
    cond (name_holds (node_of s r) (is_empty (children_in s r)))
    (elementary (of_code (node_of s r).name))
    (by_kind s r (words_with (type_at d s) s r (start_word (node_of s r)) (word_count s r)))

-- a child has a higher number, so there are no more levels than nodes
abbrev pub type_of : List Node → ℕ → AbiType
type_of s r = type_at (length s) s r

-- the types of n words from word w on below r
abbrev pub word_types : List Node → ℕ → ℕ → ℕ → AbiTypes
word_types s r w n = words_with (type_of s) s r w n

-- the list: "one for each entry, from word 0 to the root's last word, in a row"
unfoldable pub list_of : List Node → AbiTypes
list_of s = word_types s 1 0 (suc (last_word s 1))
