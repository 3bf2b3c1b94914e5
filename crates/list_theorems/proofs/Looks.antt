-- Where the facts below two nodes agree, the walks see the same children: their number, the last key and word, and a
-- lone one's kind.
use Prim.Native.Nat.{ℕ, suc, ◌-◌, ◌*◌, ◌/◌, max}
use mathlib.Core.Path.{◌≡◌, refl, sym}
use mathlib.Core.Bool.{cond, not, ◌&&◌, ◌||◌}
use mathlib.Core.List.{List, [], ◌∷◌, ◌++◌}
use lib.Dec.{eqb}
use Rattle.limits.specs.Codes as code
use Rattle.limits.specs.Limits.{word_bytes, kind_dynamic, kind_array}
use Rattle.names.specs.Elementary.{bytes}
use Rattle.types.specs.Tree.{AbiTypes, elementary, array}
use Rattle.facts.specs.Links.{In}
use Rattle.facts.specs.Formed.{Formed}
use Rattle.facts.specs.State.{Node, node_of}
use Rattle.paths.proofs.Agreeing.{agree_down}
use Rattle.list.specs.Seen.{children_in, is_empty, is_lone_kindless, last_key, last_word}
use Rattle.list.specs.Types.{uint256, name_holds, end_key, start_word, word_count, together, second, by_kind}
use Rattle.list_theorems.proofs.Under.{Same, same_back, same_fields, child_beside}
use Rattle.list_theorems.proofs.ByKey.{children_by_key, in_child, child_in}
use Rattle.list_theorems.proofs.Pairs.{Match, Paired, paired, empty_same, last_same, lone_same}

-- each child of r has one of r' with its key and kind
child_match : (s s' : List Node) → Formed s → Formed s' → (p : List ℕ) (r r' : ℕ) → Same s s' p r r' → (c : ℕ) → In c (children_in s r)
    → Match s s' (children_in s' r') c
child_match s s' F F' p r r' S c i =
    let k = (node_of s c).key in
    let B = child_beside s s' F F' p r r' k c S.here S.there (agree_down p k s s' S.agree) (in_child s r c i) in
    record {
      number = B.number;
      within = child_in s' r' k B.number B.at;
      key = sym B.at.key;
      kind = (same_fields s s' F F' (p ++ k ∷ []) c B.number B.same).0;
    }

module _ (s s' : List Node) (F : Formed s) (F' : Formed s') (p : List ℕ) (r r' : ℕ) (S : Same s s' p r r') where
  children_paired : Paired s s' (children_in s r) (children_in s' r')
  children_paired =
      paired s s' 0 0 (children_in s r) (children_in s' r') (children_by_key s r F S.here.from) (children_by_key s' r' F' S.there.from)
      (child_match s s' F F' p r r' S) (child_match s' s F' F p r' r (same_back s s' p r r' S))

  same_empty : is_empty (children_in s r) ≡ is_empty (children_in s' r')
  same_empty = empty_same s s' (children_in s r) (children_in s' r') children_paired

  same_lone : is_lone_kindless s (children_in s r) ≡ is_lone_kindless s' (children_in s' r')
  same_lone = lone_same s s' (children_in s r) (children_in s' r') children_paired

  same_last : last_key s r ≡ last_key s' r'
  same_last = last_same s s' 0 0 (children_in s r) (children_in s' r') refl children_paired

  same_kind : (node_of s r).kind ≡ (node_of s' r').kind
  same_kind = (same_fields s s' F F' p r r' S).0

  same_count : (node_of s r).count ≡ (node_of s' r').count
  same_count = (same_fields s s' F F' p r r' S).1

  pub same_name : (node_of s r).name ≡ (node_of s' r').name
  same_name = (same_fields s s' F F' p r r' S).2

  same_end : end_key s r ≡ end_key s' r'
  unfolding end_key
  same_end = λ i. max (same_last i) (word_bytes * same_count i)

  same_word : last_word s r ≡ last_word s' r'
  unfolding last_word
  same_word = λ i. max (same_last i / word_bytes) (same_count i)

  -- what a name, the words and a kind come to
  pub same_holds : name_holds (node_of s r) (is_empty (children_in s r)) ≡ name_holds (node_of s' r') (is_empty (children_in s' r'))
  unfolding name_holds
  same_holds =
      λ i. cond (eqb (same_name i) code.bytes)
      (eqb (same_kind i) 0 || (eqb (same_kind i) kind_dynamic && eqb (same_count i) 1))
      (not (eqb (same_name i) code.no_name) && same_empty i && not (eqb (same_kind i) kind_array))

  pub same_start : start_word (node_of s r) ≡ start_word (node_of s' r')
  same_start = λ i. cond (eqb (same_kind i) kind_array) 1 0

  pub same_words : word_count s r ≡ word_count s' r'
  same_words = λ i. suc (same_word i) - same_start i

  pub same_by_kind : (q : AbiTypes) → by_kind s r q ≡ by_kind s' r' q
  unfolding by_kind
  same_by_kind q =
      λ i. cond (eqb (same_kind i) kind_array) (array (together q))
      (cond (eqb (same_kind i) kind_dynamic && eqb (same_end i) 0 && same_empty i) (elementary bytes)
      (cond (eqb (same_kind i) kind_dynamic && eqb (same_end i) word_bytes && same_empty i) (array uint256)
      (cond (eqb (same_kind i) kind_dynamic && eqb (same_end i) word_bytes && same_lone i) (array (second q))
      (together q))))
