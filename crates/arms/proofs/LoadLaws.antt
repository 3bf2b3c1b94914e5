-- What a load takes off for arrays.
use Prim.Native.Nat.{ℕ, zero, suc, ◌+◌, ◌-◌, ◌*◌, ◌%◌, ◌≤◌, ◌<◌}
use mathlib.Core.Path.{◌≡◌, refl, sym, ap, ◌∙◌}
use mathlib.Core.Bool.{Bool, true, false, false≢true, cond, ◌&&◌}
use mathlib.Core.List.{List}
use native.Mathlib.Omega.{arith}
use lib.Dec.{eqb, leb}
use borrow.Author.Tests.{ne_eqb, le-leb, lt-leb, leb-true}
use Rattle.limits.specs.Limits.{word_bytes, selector_bytes, kind_array, records_max}
use Rattle.facts.specs.State.{Node, node_of}
use Rattle.kinds.specs.Kinds.{arrays_up, arrays_in_path}
use Rattle.labels.specs.declared.Val.{Val}
use Rattle.operations.specs.Asks.{IsUsed}
use Rattle.analyze.specs.Load.{is_whole_word, arrays_off, new_offset}

-- a whole word is behind the selector
pub whole_least : (a : ℕ) → is_whole_word a ≡ true → selector_bytes ≤ a
unfolding is_whole_word
whole_least a e = go (leb selector_bytes a) refl e
  where
    go : (b : Bool) → leb selector_bytes a ≡ b → (b && eqb ((a - selector_bytes) % word_bytes) 0) ≡ true → selector_bytes ≤ a
    go true q w = leb-true selector_bytes a q
    go false q w = absurd (false≢true w)

-- a path has no more arrays than turns
up_most : (n : ℕ) (s : List Node) (r : ℕ) → arrays_up n s r ≤ n
unfolding arrays_up
up_most zero s r = omega arith
up_most (suc n) s r = go (eqb r 0) (eqb (node_of s r).kind kind_array) (up_most n s (node_of s r).parent)
  where
    go : (b k : Bool) → arrays_up n s (node_of s r).parent ≤ n → cond b 0 (cond k 1 0 + arrays_up n s (node_of s r).parent) ≤ suc n
    go true k h = omega arith
    go false true h = omega arith
    go false false h = omega arith

pub arrays_most : (s : List Node) (r : ℕ) → arrays_in_path s r ≤ r
unfolding arrays_in_path
arrays_most s r = up_most r s r

pub few_arrays : (s : List Node) (u n : ℕ) (v : Val) (m : ℕ) → u ≤ n → n ≤ records_max → IsUsed u v.path → m ≡ arrays_in_path s v.path → m ≤ records_max
few_arrays s u n v m k w U e =
    let h = arrays_most s v.path in
    let l = U.to in
    omega arith

-- what is taken off for arrays
off_more : (m a : ℕ) → a - selector_bytes < word_bytes * m → arrays_off m a ≡ 0
unfolding arrays_off
off_more m a l = rw (lt-leb (word_bytes * m) (a - selector_bytes) l) (go (eqb a selector_bytes))
  where
    go : (b : Bool) → ◌≡◌ {A = ℕ} (cond b 0 0) 0
    go true = refl
    go false = refl

off_all : (m a : ℕ) → (a ≡ selector_bytes → ⊥) → word_bytes * m ≤ a - selector_bytes → arrays_off m a ≡ word_bytes * m
unfolding arrays_off
off_all m a n l = rw (ne_eqb a selector_bytes n, le-leb (word_bytes * m) (a - selector_bytes) l) refl

module _ (s : List Node) (v : Val) where
  offset_is : (m x : ℕ) → m ≡ arrays_in_path s v.path → arrays_off m v.add_val ≡ x → v.add_val - selector_bytes - x ≡ new_offset s v
  unfolding new_offset
  offset_is m x e q = sym (ap (λ (y : ℕ). v.add_val - selector_bytes - y) (ap (λ (y : ℕ). arrays_off y v.add_val) (sym e) ∙ q))

  pub offset_kept : (m : ℕ) → m ≡ arrays_in_path s v.path → v.add_val - selector_bytes < word_bytes * m → v.add_val - selector_bytes ≡ new_offset s v
  offset_kept m e l =
      let e = offset_is m 0 e (off_more m v.add_val l) in
      omega arith

  pub offset_taken : (m : ℕ) → m ≡ arrays_in_path s v.path → (v.add_val - selector_bytes ≡ 0 → ⊥) → word_bytes * m ≤ v.add_val - selector_bytes
      → v.add_val - selector_bytes - word_bytes * m ≡ new_offset s v
  offset_taken m e n l = offset_is m (word_bytes * m) e (off_all m v.add_val (λ q. n (omega arith)) l)
