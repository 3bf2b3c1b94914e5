-- Each type of a list is well formed: names have question 2's widths, and a tuple is made of two words or more.
use Prim.Native.Nat.{ℕ, zero, suc, ◌*◌, ◌≤◌}
use mathlib.Core.Path.{◌≡◌, refl, ap}
use mathlib.Core.Bool.{Bool, true, false, cond, not, ◌&&◌}
use mathlib.Core.List.{List}
use native.Mathlib.Omega.{arith}
use lib.Dec.{eqb}
use lib.ListN.{length}
use borrow.Author.Tests.{eq-eqb, ne_eqb}
use Rattle.limits.specs.Codes as code
use Rattle.limits.specs.Limits.{word_bytes, kind_array}
use Rattle.names.specs.Elementary.{bytes, of_code, good_width}
use Rattle.names.proofs.Codes.{name_has_width}
use Rattle.types.specs.Tree.{AbiType, AbiTypes, elementary, array, nil, cons, count, well_formed, all_well_formed}
use Rattle.types.proofs.Formed.{head_formed, tail_formed, cons_formed, tuple_formed}
use Rattle.facts.specs.Checks.{is_record}
use Rattle.facts.specs.Formed.{Formed}
use Rattle.facts.specs.State.{Node, node_of}
use Rattle.facts.proofs.Whole.{fact_parts}
use Rattle.paths.specs.Find.{find_in}
use Rattle.paths.proofs.Sounds.{formed_ordered}
use Rattle.list.specs.Seen.{children_in, is_empty, last_word}
use Rattle.list.specs.Types.{uint256, name_holds, start_word, word_count, together, second, has_word, words_with, type_at}
use Rattle.list.specs.Types.{list_of}
use Rattle.budget.proofs.KidLaws.{Child}
use Rattle.list_theorems.proofs.Cases.{by_cases, type_cases}
use Rattle.list_theorems.proofs.Words.{word_at}

uint_formed : well_formed uint256 ≡ true
unfolding well_formed good_width
uint_formed = refl

bytes_formed : well_formed (elementary bytes) ≡ true
unfolding well_formed good_width
bytes_formed = refl

array_formed : (t : AbiType) → well_formed t ≡ true → well_formed (array t) ≡ true
unfolding well_formed
array_formed t h = h

together_formed : (q : AbiTypes) → all_well_formed q ≡ true → well_formed (together q) ≡ true
unfolding count
together_formed nil h = uint_formed
together_formed (cons t nil) h = head_formed t nil h
together_formed (cons t (cons u ts)) h = tuple_formed (cons t (cons u ts)) (omega arith) h

second_formed : (q : AbiTypes) → all_well_formed q ≡ true → well_formed (second q) ≡ true
second_formed nil h = uint_formed
second_formed (cons t nil) h = uint_formed
second_formed (cons t (cons u ts)) h = head_formed u ts (tail_formed t (cons u ts) h)

-- a name that is the type is there
holds_some : (n : Node) (b : Bool) → name_holds n b ≡ true → n.name ≡ code.no_name → ⊥
unfolding name_holds
holds_some n b h z = go (eqb n.name code.no_name) (eq-eqb n.name code.no_name z) (rw (ne_eqb n.name code.bytes (λ e. omega arith)) at h)
  where
    go : (c : Bool) → c ≡ true → (not c && b && not (eqb n.kind kind_array)) ≡ true → ⊥
    go true e x = let y : ◌≡◌ {A = ℕ} 0 1 = ap (λ (v : Bool). cond v 1 0) x in omega arith
    go false e x = let y : ◌≡◌ {A = ℕ} 0 1 = ap (λ (v : Bool). cond v 1 0) e in omega arith

holds_formed : (n : Node) (b : Bool) → is_record n ≡ true → name_holds n b ≡ true → well_formed (elementary (of_code n.name)) ≡ true
unfolding well_formed
holds_formed n b f h =
    name_has_width n.name (rw (ne_eqb n.name code.no_name (holds_some n b h)) at (fact_parts n f).sixth)

module _ (s : List Node) (F : Formed s) where
  words_formed : (type : ℕ → AbiType) (r : ℕ) → 1 ≤ r → ((c : ℕ) → Child s r c → well_formed (type c) ≡ true) → (w n : ℕ)
      → all_well_formed (words_with type s r w n) ≡ true
  unfolding words_with well_formed
  words_formed type r r1 h w zero = refl
  words_formed type r r1 h w (suc n) =
      cons_formed (cond (has_word s r w) (type (find_in s r (word_bytes * w))) uint256) (words_with type s r (suc w) n) (go (has_word s r w) refl)
      (words_formed type r r1 h (suc w) n)
    where
      go : (b : Bool) → has_word s r w ≡ b → well_formed (cond b (type (find_in s r (word_bytes * w))) uint256) ≡ true
      go true e = h (find_in s r (word_bytes * w)) (word_at s r w (formed_ordered s F) r1 e).child
      go false e = uint_formed

  pub type_formed : (d r : ℕ) → 1 ≤ r → r ≤ length s → well_formed (type_at d s r) ≡ true
  unfolding type_at
  type_formed zero r r1 rl = uint_formed
  type_formed (suc d) r r1 rl =
      let q = words_with (type_at d s) s r (start_word (node_of s r)) (word_count s r) in
      let a = words_formed (type_at d s) r r1 (λ c C. type_formed d c (let x = C.above in omega arith) C.within) (start_word (node_of s r)) (word_count s r) in
      type_cases s r (λ (x : AbiType). well_formed x ≡ true) d
      (λ h. holds_formed (node_of s r) (is_empty (children_in s r)) (F.fact r r1 rl) h)
      (by_cases s r (λ (x : AbiType). well_formed x ≡ true) q
      (λ h. array_formed (together q) (together_formed q a))
      bytes_formed
      (array_formed uint256 uint_formed)
      (array_formed (second q) (second_formed q a))
      (together_formed q a))

  -- "`to_alloy_type` then gives exactly one type for each node but the root": ABI types all
  pub list_formed : all_well_formed (list_of s) ≡ true
  unfolding list_of
  list_formed =
      words_formed (type_at (length s) s) 1 (omega arith) (λ c C. type_formed (length s) c (let x = C.above in omega arith) C.within) 0 (suc (last_word s 1))
