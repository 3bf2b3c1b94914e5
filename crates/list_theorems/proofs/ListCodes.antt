-- A granted list has no more codes than the budget takes: each word of a fact is paid for by the fact's own cost, and a
-- child's type may have one code more than the sum at the child and below it, which its word pays.
use Prim.Native.Nat.{ℕ, zero, suc, ◌+◌, ◌-◌, ◌*◌, ◌≤◌, max}
use mathlib.Core.Path.{◌≡◌, refl, ap, ◌∙◌}
use mathlib.Core.Bool.{Bool, true, false, cond}
use mathlib.Core.List.{List}
use native.Mathlib.Omega.{arith}
use lib.ListN.{length}
use borrow.Author.Tests.{eq-eqb}
use Rattle.limits.specs.Limits.{word_bytes, kind_array}
use Rattle.types.specs.Tree.{AbiType, AbiTypes, elementary, nil, cons}
use Rattle.types.specs.Codes.{codes, all_codes}
use Rattle.types.proofs.Sizes.{array_length, tuple_length, cons_length}
use Rattle.names.specs.Elementary.{Elementary, bytes, uint, of_code}
use Rattle.facts.specs.Formed.{Formed}
use Rattle.facts.specs.State.{Node, node_of, kids_in}
use Rattle.paths.specs.Find.{find_in}
use Rattle.paths.specs.Order.{Ordered}
use Rattle.paths.proofs.Sounds.{formed_ordered, formed_under}
use Rattle.list.specs.Seen.{last_word}
use Rattle.list.specs.Budget.{spend}
use Rattle.list.specs.Walk.{sum_of, spend_below}
use Rattle.list.specs.Types.{uint256, start_word, word_count, together, second, has_word, words_with, type_at, list_of}
use Rattle.budget.proofs.KidLaws.{Child, child_kid}
use Rattle.budget.proofs.LevelLaws.{spend_is}
use Rattle.budget.proofs.Spends.{spend_walk}
use Rattle.list_theorems.proofs.Cases.{by_cases, type_cases}
use Rattle.list_theorems.proofs.Words.{word_at, from, from_less, from_kid, from_all}

one_code : (e : Elementary) → length (codes (elementary e)) ≡ 1
unfolding codes
one_code e = refl

no_codes : length (all_codes nil) ≡ 0
unfolding codes
no_codes = refl

together_codes : (q : AbiTypes) → length (codes (together q)) ≤ 1 + length (all_codes q)
together_codes nil = omega (arith, one_code (uint 256))
together_codes (cons t nil) = let a = cons_length t nil in omega arith
together_codes (cons t (cons u ts)) = let a = tuple_length (cons t (cons u ts)) in omega arith

second_codes : (q : AbiTypes) → length (codes (second q)) ≤ max 1 (length (all_codes q))
second_codes nil = omega (arith, one_code (uint 256))
second_codes (cons t nil) = omega (arith, one_code (uint 256))
second_codes (cons t (cons u ts)) = let a = cons_length t (cons u ts) in let b = cons_length u ts in omega arith

module _ (s : List Node) (O : Ordered s) where
  -- the codes of n words, where a child's type has one code more than f says at most
  words_codes : (type : ℕ → AbiType) (f : ℕ → ℕ) (r : ℕ) → 1 ≤ r → ((c : ℕ) → Child s r c → (node_of s c).seen ≡ 1 → length (codes (type c)) ≤ f c + 1) → (w n : ℕ)
      → length (all_codes (words_with type s r w n)) ≤ n + sum_of (from s f (word_bytes * w)) (kids_in s r)
  unfolding words_with
  words_codes type f r r1 h w zero = omega (arith, no_codes)
  words_codes type f r r1 h w (suc n) = go (has_word s r w) refl (words_codes type f r r1 h (suc w) n)
    where
      rest : AbiTypes
      rest = words_with type s r (suc w) n

      go : (b : Bool) → has_word s r w ≡ b → length (all_codes rest) ≤ n + sum_of (from s f (word_bytes * suc w)) (kids_in s r)
          → length (all_codes (cons (cond b (type (find_in s r (word_bytes * w))) uint256) rest)) ≤ suc n + sum_of (from s f (word_bytes * w)) (kids_in s r)
      go true e g =
          let A = word_at s r w O r1 e in
          let c = find_in s r (word_bytes * w) in
          let a = cons_length (type c) rest in
          let b = h c A.child A.seen in
          let d = from_kid s f (word_bytes * w) (word_bytes * suc w) c (kids_in s r) (omega arith) A.key (child_kid s r c A.child) in
          omega arith
      go false e g =
          let a = cons_length uint256 rest in
          let b = one_code (uint 256) in
          let d = from_less s f (word_bytes * w) (word_bytes * suc w) (kids_in s r) (omega arith) in
          omega arith

  -- so those of all words of r are paid for
  all_codes_lem : (type : ℕ → AbiType) (f : ℕ → ℕ) (r : ℕ) → 1 ≤ r → ((c : ℕ) → Child s r c → (node_of s c).seen ≡ 1 → length (codes (type c)) ≤ f c + 1) → (w n : ℕ)
      → length (all_codes (words_with type s r w n)) ≤ n + sum_of f (kids_in s r)
  all_codes_lem type f r r1 h w n =
      let a = words_codes type f r r1 h w n in
      let b = from_less s f 0 (word_bytes * w) (kids_in s r) (omega arith) in
      let c = from_all s f (kids_in s r) in
      omega arith

  spend_seen : (d r : ℕ) → (node_of s r).seen ≡ 1 → spend_below (suc d) s r ≡ suc (last_word s r) + sum_of (spend_below d s) (kids_in s r)
  unfolding spend_below
  spend_seen d r v = rw (eq-eqb (node_of s r).seen 1 v) refl

  pub codes_below : (d r : ℕ) → 1 ≤ r → (node_of s r).seen ≡ 1 → length (codes (type_at d s r)) ≤ spend_below d s r + 1
  unfolding type_at
  codes_below zero r r1 v = omega (arith, one_code (uint 256))
  codes_below (suc d) r r1 v =
      let n = spend_seen d r v in
      let q = words_with (type_at d s) s r (start_word (node_of s r)) (word_count s r) in
      let a = all_codes_lem (type_at d s) (spend_below d s) r r1 (λ c C w. codes_below d c (let x = C.above in omega arith) w) (start_word (node_of s r)) (word_count s r) in
      let t = together_codes q in
      let u = second_codes q in
      type_cases s r (λ (x : AbiType). length (codes x) ≤ spend_below (suc d) s r + 1) d
      (λ h. omega (arith, one_code (of_code (node_of s r).name)))
      (by_cases s r (λ (x : AbiType). length (codes x) ≤ spend_below (suc d) s r + 1) q
      (λ h. let k = ap (λ (b : Bool). suc (last_word s r) - cond b 1 0) (eq-eqb (node_of s r).kind kind_array h) in omega (arith, array_length (together q)))
      (omega (arith, one_code bytes))
      (omega (arith, array_length uint256, one_code (uint 256)))
      (omega (arith, array_length (second q)))
      (omega arith))

-- the list of a formed state: its codes are within the budget's sum
pub list_codes : (s : List Node) → Formed s → length (all_codes (list_of s)) ≤ spend s
unfolding list_of
list_codes s F =
    let O = formed_ordered s F in
    let a = all_codes_lem s O (type_at (length s) s) (spend_below (length s) s) 1 (omega arith) (λ c C w. codes_below s O (length s) c (let x = C.above in omega arith) w)
    0 (suc (last_word s 1)) in
    let v : (node_of s 1).seen ≡ 1 = ap (λ (n : Node). n.seen) F.first in
    let b = spend_is s 1 (omega arith) F.some in
    let e : spend_below (length s) s 1 ≡ suc (last_word s 1) + sum_of (spend_below (length s) s) (kids_in s 1) = b ∙ rw (eq-eqb (node_of s 1).seen 1 v) refl in
    let w = spend_walk s O (formed_under s F) in
    omega arith
