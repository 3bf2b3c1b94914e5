-- A type is given by its name or by its kind: the cases of the definition.
use Prim.Native.Nat.{ℕ, suc}
use mathlib.Core.Path.{◌≡◌, refl}
use mathlib.Core.Bool.{Bool, true, false, cond, ◌&&◌}
use mathlib.Core.List.{List}
use lib.Dec.{eqb}
use borrow.Author.Tests.{eqb-true}
use Rattle.limits.specs.Limits.{word_bytes, kind_dynamic, kind_array}
use Rattle.names.specs.Elementary.{bytes, of_code}
use Rattle.types.specs.Tree.{AbiType, AbiTypes, elementary, array}
use Rattle.facts.specs.State.{Node, node_of}
use Rattle.list.specs.Seen.{children_in, is_empty, is_lone_kindless}
use Rattle.list.specs.Types.{uint256, name_holds, end_key, start_word, word_count, together, second, by_kind, words_with}
use Rattle.list.specs.Types.{type_at}

module _ (s : List Node) (r : ℕ) (P : AbiType → Type 0) where
  pub by_cases : (q : AbiTypes) → ((node_of s r).kind ≡ kind_array → P (array (together q))) → P (elementary bytes) → P (array uint256) → P (array (second q))
      → P (together q) → P (by_kind s r q)
  unfolding by_kind
  by_cases q a b c d e = go (eqb (node_of s r).kind kind_array) refl
      (eqb (node_of s r).kind kind_dynamic && eqb (end_key s r) 0 && is_empty (children_in s r))
      (eqb (node_of s r).kind kind_dynamic && eqb (end_key s r) word_bytes && is_empty (children_in s r))
      (eqb (node_of s r).kind kind_dynamic && eqb (end_key s r) word_bytes && is_lone_kindless s (children_in s r))
    where
      go : (k : Bool) → eqb (node_of s r).kind kind_array ≡ k → (x y z : Bool)
          → P (cond k (array (together q)) (cond x (elementary bytes) (cond y (array uint256) (cond z (array (second q)) (together q)))))
      go true h x y z = a (eqb-true (node_of s r).kind kind_array h)
      go false h true y z = b
      go false h false true z = c
      go false h false false true = d
      go false h false false false = e

  pub type_cases : (d : ℕ) → (name_holds (node_of s r) (is_empty (children_in s r)) ≡ true → P (elementary (of_code (node_of s r).name)))
      → P (by_kind s r (words_with (type_at d s) s r (start_word (node_of s r)) (word_count s r))) → P (type_at (suc d) s r)
  unfolding type_at
  type_cases d a b = go (name_holds (node_of s r) (is_empty (children_in s r))) refl
    where
      go : (k : Bool) → name_holds (node_of s r) (is_empty (children_in s r)) ≡ k
          → P (cond k (elementary (of_code (node_of s r).name)) (by_kind s r (words_with (type_at d s) s r (start_word (node_of s r)) (word_count s r))))
      go true h = a h
      go false h = b
