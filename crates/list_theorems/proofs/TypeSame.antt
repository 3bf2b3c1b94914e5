-- Where the facts at and below two nodes agree, their types are the same.
use Prim.Native.Nat.{ℕ, zero, suc, ◌-◌, ◌<◌}
use mathlib.Core.Path.{◌≡◌, sym, ap, ◌∙◌}
use mathlib.Core.Bool.{cond}
use mathlib.Core.List.{List, [], ◌∷◌, ◌++◌}
use native.Mathlib.Omega.{arith}
use lib.ListN.{length}
use Rattle.names.specs.Elementary.{of_code}
use Rattle.types.specs.Tree.{AbiTypes, elementary}
use Rattle.facts.specs.Formed.{Formed}
use Rattle.facts.specs.State.{Node, node_of}
use Rattle.paths.proofs.Sounds.{formed_ordered}
use Rattle.list.specs.Seen.{children_in, is_empty}
use Rattle.list.specs.Types.{name_holds, start_word, word_count, by_kind, type_of, word_types}
use Rattle.list.proofs.TypeLaws.{type_is}
use Rattle.list_theorems.proofs.Under.{Same}
use Rattle.list_theorems.proofs.Looks.{same_name, same_holds, same_start, same_words, same_by_kind}
use Rattle.list_theorems.proofs.WordLaws.{Alike, words_alike}

module _ (s s' : List Node) (F : Formed s) (F' : Formed s') where
  -- from the children's types to their parents'
  type_step : (p : List ℕ) (r r' : ℕ) → Same s s' p r r' → ((k : ℕ) → Alike s s' p r (type_of s) (type_of s') k) → type_of s r ≡ type_of s' r'
  type_step p r r' S e =
      type_is s (formed_ordered s F) r S.here.from S.here.within
      ∙ ap (λ (q : AbiTypes). cond (name_holds (node_of s r) (is_empty (children_in s r))) (elementary (of_code (node_of s r).name)) (by_kind s r q)) words
      ∙ (λ i. cond (same_holds s s' F F' p r r' S i) (elementary (of_code (same_name s s' F F' p r r' S i)))
      (same_by_kind s s' F F' p r r' S (word_types s' r' (start_word (node_of s' r')) (word_count s' r')) i))
      ∙ sym (type_is s' (formed_ordered s' F') r' S.there.from S.there.within)
    where
      words : word_types s r (start_word (node_of s r)) (word_count s r) ≡ word_types s' r' (start_word (node_of s' r')) (word_count s' r')
      words =
          words_alike s s' F F' p r r' S.here S.there (type_of s) (type_of s') S.agree e (start_word (node_of s r)) (word_count s r)
          ∙ (λ i. word_types s' r' (same_start s s' F F' p r r' S i) (same_words s s' F F' p r r' S i))

  -- n is more than there are numbers above r, where its children stand
  same_below : (n : ℕ) (p : List ℕ) (r r' : ℕ) → length s - r < n → Same s s' p r r' → type_of s r ≡ type_of s' r'
  same_below zero p r r' l S = absurd (omega arith)
  same_below (suc n) p r r' l S = type_step p r r' S (λ k c c' a C. same_below n (p ++ k ∷ []) c c' (let w = C.here.within in omega arith) C)

  pub type_same : (p : List ℕ) (r r' : ℕ) → Same s s' p r r' → type_of s r ≡ type_of s' r'
  type_same p r r' S = same_below (suc (length s)) p r r' (omega arith) S
