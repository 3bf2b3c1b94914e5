-- How deep a list's types are: a fact adds two levels at most, an array and a tuple.
use Prim.Native.Nat.{ℕ, zero, suc, ◌+◌, ◌-◌, ◌*◌, ◌≤◌}
use mathlib.Core.Path.{◌≡◌, refl, ap, ◌∙◌}
use mathlib.Core.Bool.{Bool, true, false, cond, ◌&&◌, and-eq-true_iff}
use mathlib.Core.List.{List}
use native.Mathlib.Omega.{arith}
use lib.Dec.{leb}
use lib.ListN.{length}
use borrow.Author.Tests.{eq-eqb, leb-true}
use Rattle.limits.specs.Limits.{word_bytes, depth_max}
use Rattle.names.specs.Elementary.{Elementary, bytes, uint, of_code}
use Rattle.types.specs.Tree.{AbiType, AbiTypes, elementary, array, nil, cons, levels, most_levels}
use Rattle.facts.specs.Formed.{Formed}
use Rattle.facts.specs.State.{Node, node_of, kids_in}
use Rattle.paths.specs.Find.{find_in}
use Rattle.paths.specs.Order.{Ordered}
use Rattle.paths.proofs.Sounds.{formed_ordered, formed_under}
use Rattle.list.specs.Seen.{last_word}
use Rattle.list.specs.Budget.{shallow}
use Rattle.list.specs.Walk.{all_of, shallow_below}
use Rattle.list.specs.Types.{uint256, start_word, word_count, together, second, has_word, words_with, type_at, list_of}
use Rattle.budget.proofs.KidLaws.{Child, child_kid}
use Rattle.budget.proofs.Shallows.{all_in, shallow_walk, pass_kid}
use Rattle.list_theorems.proofs.Cases.{by_cases, type_cases}
use Rattle.list_theorems.proofs.Words.{word_at}

one_level : (e : Elementary) → levels (elementary e) ≡ 1
unfolding levels
one_level e = refl

together_levels : (q : AbiTypes) → levels (together q) ≤ suc (most_levels q)
unfolding levels
together_levels nil = omega arith
together_levels (cons t nil) = omega arith
together_levels (cons t (cons u ts)) = omega arith

second_levels : (q : AbiTypes) → levels (second q) ≤ suc (most_levels q)
unfolding levels
second_levels nil = omega arith
second_levels (cons t nil) = omega arith
second_levels (cons t (cons u ts)) = omega arith

array_levels : (t : AbiType) → levels (array t) ≡ suc (levels t)
unfolding levels
array_levels t = refl

-- "the depth left below 65": two levels for each, and one
abbrev pub levels_from : ℕ → ℕ
levels_from depth = 2 * (suc depth_max - depth) + 1

module _ (s : List Node) (O : Ordered s) where
  words_levels : (type : ℕ → AbiType) (m r : ℕ) → 1 ≤ r → 1 ≤ m → ((c : ℕ) → Child s r c → (node_of s c).seen ≡ 1 → levels (type c) ≤ m) → (w n : ℕ)
      → most_levels (words_with type s r w n) ≤ m
  unfolding words_with levels
  words_levels type m r r1 m1 h w zero = omega arith
  words_levels type m r r1 m1 h w (suc n) =
      let a = words_levels type m r r1 m1 h (suc w) n in
      let b = go (has_word s r w) refl in
      omega arith
    where
      go : (b : Bool) → has_word s r w ≡ b → levels (cond b (type (find_in s r (word_bytes * w))) uint256) ≤ m
      go true e = let A = word_at s r w O r1 e in h (find_in s r (word_bytes * w)) A.child A.seen
      go false e = omega (arith, one_level (uint 256))

  module _ (d depth r : ℕ) (v : (node_of s r).seen ≡ 1) (e : shallow_below (suc d) s depth r ≡ true) where
    both : (leb depth depth_max && all_of (shallow_below d s (suc depth)) (kids_in s r)) ≡ true
    unfolding shallow_below
    both = rw (eq-eqb (node_of s r).seen 1 v) at e

    here : depth ≤ depth_max
    here = leb-true depth depth_max ((and-eq-true_iff (leb depth depth_max) (all_of (shallow_below d s (suc depth)) (kids_in s r))).0 both).0

    kid : (c : ℕ) → Child s r c → shallow_below d s (suc depth) c ≡ true
    kid c C =
        all_in (shallow_below d s (suc depth)) (kids_in s r)
        ((and-eq-true_iff (leb depth depth_max) (all_of (shallow_below d s (suc depth)) (kids_in s r))).0 both).1 c (child_kid s r c C)

  pub type_levels : (d depth r : ℕ) → 1 ≤ r → (node_of s r).seen ≡ 1 → shallow_below d s depth r ≡ true → levels (type_at d s r) ≤ levels_from depth
  unfolding type_at
  type_levels zero depth r r1 v e = omega (arith, one_level (uint 256))
  type_levels (suc d) depth r r1 v e =
      let q = words_with (type_at d s) s r (start_word (node_of s r)) (word_count s r) in
      let l = here d depth r v e in
      let a = words_levels (type_at d s) (levels_from (suc depth)) r r1 (omega arith)
      (λ c C w. type_levels d (suc depth) c (let x = C.above in omega arith) w (kid d depth r v e c C)) (start_word (node_of s r)) (word_count s r) in
      let t = together_levels q in
      let u = second_levels q in
      type_cases s r (λ (x : AbiType). levels x ≤ levels_from depth) d
      (λ h. omega (arith, one_level (of_code (node_of s r).name)))
      (by_cases s r (λ (x : AbiType). levels x ≤ levels_from depth) q
      (λ h. omega (arith, array_levels (together q)))
      (omega (arith, one_level bytes))
      (omega (arith, array_levels uint256, one_level (uint 256)))
      (omega (arith, array_levels (second q)))
      (omega arith))

-- the entries of a list whose facts lie no deeper than 64 have 129 levels at most
pub list_levels : (s : List Node) → Formed s → shallow s ≡ true → most_levels (list_of s) ≤ 2 * depth_max + 1
unfolding list_of
list_levels s F h =
    let O = formed_ordered s F in
    let v : (node_of s 1).seen ≡ 1 = ap (λ (n : Node). n.seen) F.first in
    let e = shallow_walk s O (formed_under s F) ∙ h in
    words_levels s O (type_at (length s) s) (2 * depth_max + 1) 1 (omega arith) (omega arith)
    (λ c C w. type_levels s O (length s) 1 c (let y = C.above in omega arith) w (pass_kid s O 0 1 (omega arith) F.some v e c C))
    0 (suc (last_word s 1))
