-- How the codes of a fact's type are written: two codes ahead at most, and then those of some of its words.
-- (`codes_plan`: these are the codes of the type.)
use Rattle.std.specs.Prelude.{ℕ, suc, ◌+◌, Bool, cond, ◌&&◌, List, [], ◌∷◌, ◌++◌, eqb, leb, Option, None, Some}
use Rattle.limits.specs.Codes as code
use Rattle.limits.specs.Limits.{word_bytes, kind_dynamic, kind_array}
use Rattle.facts.specs.State.{Node, node_of, kids_in}
use Rattle.list.specs.Seen.{children_in, is_empty, is_lone_kindless, last_word}
use Rattle.types.specs.Tree.{AbiType}
use Rattle.list.specs.Types.{uint256, name_holds, end_key, type_of}
use Rattle.type_walk.specs.declared.Plan.{Plan}

-- the codes ahead, and then n words from word w on
abbrev pub plan : Option ℕ → Option ℕ → ℕ → ℕ → Plan
plan f g w n = record { first = f; second = g; start = w; words = n }

-- the code of uint256
abbrev pub word_code : ℕ
word_code = code.uint + 256

-- the code of a tuple of so many types, if it is one
abbrev pub tuple_code : ℕ → Option ℕ
tuple_code n = cond (leb 2 n) (Some (code.tuple + n)) None

-- for a fact that is no array, of a kind, with no child or a lone plain one, an end and a last word, as the last lines
-- of `by_kind` in the list's definition
unfoldable pub open_plan : ℕ → Bool → Bool → ℕ → ℕ → Plan
open_plan kind childless lone end last =
    cond (eqb kind kind_dynamic && eqb end 0 && childless) (plan (Some code.bytes) None 0 0)
    (cond (eqb kind kind_dynamic && eqb end word_bytes && childless) (plan (Some code.array) (Some word_code) 0 0)
    (cond (eqb kind kind_dynamic && eqb end word_bytes && lone) (plan (Some code.array) None 1 1)
    (plan (tuple_code (suc last)) None 0 (suc last))))

-- by kind
unfoldable pub kind_plan : List Node → ℕ → Plan
kind_plan s r =
    cond (eqb (node_of s r).kind kind_array) (plan (Some code.array) (tuple_code (last_word s r)) 1 (last_word s r))
    (open_plan (node_of s r).kind (is_empty (children_in s r)) (is_lone_kindless s (children_in s r))
    (end_key s r) (last_word s r))

-- a fact's, as `type_at`
unfoldable pub plan_of : List Node → ℕ → Plan
plan_of s r = cond (name_holds (node_of s r) (is_empty (children_in s r))) (plan (Some (node_of s r).name) None 0 0) (kind_plan s r)

-- the type of a word at whose key the record c stands: uint256 where it is not seen
unfoldable pub word_type : List Node → ℕ → AbiType
word_type s c = cond (eqb (node_of s c).seen 1) (type_of s c) uint256

-- its one code, if it has no more: the name of a fact with no child and no kind, or uint256 without one
unfoldable pub leaf_code : List Node → ℕ → Option ℕ
leaf_code s c =
    cond (eqb (node_of s c).seen 1)
    (cond (is_empty (kids_in s c) && eqb (node_of s c).kind 0)
    (Some (cond (eqb (node_of s c).name code.no_name) word_code (node_of s c).name)) None)
    (Some word_code)

-- a code, if there is one
abbrev pub lead : Option ℕ → List ℕ
lead None = []
lead (Some c) = c ∷ []

-- the codes ahead
abbrev pub leads : Plan → List ℕ
leads p = lead p.first ++ lead p.second
