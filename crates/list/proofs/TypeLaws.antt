-- The type of a fact in terms of its children's types: how many levels are allowed tells nothing, once there are
-- enough.
use Prim.Native.Nat.{ℕ, zero, suc, ◌-◌, ◌*◌, ◌/◌, ◌≤◌, ◌<◌, max}
use mathlib.Core.Path.{◌≡◌, refl, ap}
use mathlib.Core.Bool.{Bool, true, false, false≢true, cond, not, ◌&&◌}
use mathlib.Core.List.{List}
use native.Mathlib.Omega.{arith}
use lib.Dec.{eqb}
use lib.ListN.{length}
use borrow.Author.Tests.{eqb-false}
use Rattle.limits.specs.Limits.{word_bytes}
use Rattle.names.specs.Elementary.{of_code}
use Rattle.types.specs.Tree.{AbiType, AbiTypes, elementary, cons, count}
use Rattle.facts.specs.State.{Node, node_of}
use Rattle.paths.specs.Find.{find_in}
use Rattle.paths.specs.Order.{Ordered}
use Rattle.paths.proofs.Lookups.{found_node, found_above}
use Rattle.list.specs.Seen.{children_in, is_empty, last_key, last_word}
use Rattle.list.specs.Types.{uint256, name_holds, end_key, start_word, word_count, by_kind, has_word, words_with, type_at}
use Rattle.list.specs.Types.{type_of}

-- a list has as many types as it has words
pub count_words : (f : ℕ → AbiType) (s : List Node) (r w n : ℕ) → count (words_with f s r w n) ≡ n
unfolding words_with count
count_words f s r w zero = refl
count_words f s r w (suc n) = ap suc (count_words f s r (suc w) n)

module _ (s : List Node) (O : Ordered s) where
  -- a child has a higher number than its parent
  pub found_range : (r k : ℕ) → 1 ≤ r → (find_in s r k ≡ 0 → ⊥) → (r < find_in s r k) × (find_in s r k ≤ length s)
  found_range r k r1 n =
      let N = found_node s r k n in
      let a = found_above s r k O r1 n in
      let h = N.high in
      let l = (O.lower (find_in s r k) a h).1 in
      let p = N.parent in
      (omega arith, h)

  -- a word that has a child
  pub has_found : (r w : ℕ) → has_word s r w ≡ true → find_in s r (word_bytes * w) ≡ 0 → ⊥
  has_found r w e z = go (eqb (find_in s r (word_bytes * w)) 0) refl e
    where
      go : (b : Bool) → eqb (find_in s r (word_bytes * w)) 0 ≡ b → not b && eqb (node_of s (find_in s r (word_bytes * w))).seen 1 ≡ true → ⊥
      go true q y = absurd (false≢true y)
      go false q y = eqb-false (find_in s r (word_bytes * w)) 0 q z

  -- functions that agree on all higher numbers give the same types
  pub words_same : (f g : ℕ → AbiType) (r w n : ℕ) → 1 ≤ r → ((c : ℕ) → r < c → c ≤ length s → f c ≡ g c) → words_with f s r w n ≡ words_with g s r w n
  unfolding words_with
  words_same f g r w zero r1 e = refl
  words_same f g r w (suc n) r1 e = λ i. cons (entry (has_word s r w) refl i) (words_same f g r (suc w) n r1 e i)
    where
      entry : (b : Bool) → has_word s r w ≡ b → cond b (f (find_in s r (word_bytes * w))) uint256 ≡ cond b (g (find_in s r (word_bytes * w))) uint256
      entry true h = let R = found_range r (word_bytes * w) r1 (has_found r w h) in e (find_in s r (word_bytes * w)) R.0 R.1
      entry false h = refl

  -- what r says, with the types of its children
  abbrev type_by : (ℕ → AbiType) → ℕ → AbiType
  type_by f r =
      cond (name_holds (node_of s r) (is_empty (children_in s r)))
      (elementary (of_code (node_of s r).name))
      (by_kind s r (words_with f s r (start_word (node_of s r)) (word_count s r)))

  type_enough : (d e r : ℕ) → 1 ≤ r → length s - r < d → length s - r < e → type_at d s r ≡ type_at e s r
  unfolding type_at
  type_enough zero e r r1 hd he = absurd (omega arith)
  type_enough (suc d) zero r r1 hd he = absurd (omega arith)
  type_enough (suc d) (suc e) r r1 hd he =
      ap (λ (q : AbiTypes). cond (name_holds (node_of s r) (is_empty (children_in s r))) (elementary (of_code (node_of s r).name)) (by_kind s r q))
      (words_same (type_at d s) (type_at e s) r (start_word (node_of s r)) (word_count s r) r1
      (λ c above within. type_enough d e c (omega arith) (omega arith) (omega arith)))

  -- the Rust's `to_alloy_type` of a fact: from its own fields and the types of its words
  pub type_is : (r : ℕ) → 1 ≤ r → r ≤ length s → type_of s r ≡ type_by (type_of s) r
  unfolding type_at
  type_is r r1 h = type_enough (length s) (suc (length s)) r r1 (omega arith) (omega arith)

-- the word of `end_key` is the last word
pub last_word_is : (s : List Node) (r : ℕ) → last_word s r ≡ end_key s r / word_bytes
unfolding last_word end_key
last_word_is s r = words (last_key s r) (node_of s r).count
  where
    words : (k c : ℕ) → max (k / word_bytes) c ≡ max k (word_bytes * c) / word_bytes
    words k c = omega arith
