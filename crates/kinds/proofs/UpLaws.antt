-- Counting the arrays of a path, one record a turn.
use Rattle.std.proofs.Common.{◌≡◌, ℕ, zero, suc, ◌+◌, ◌≤◌, Bool, true, false, cond, List, [], ◌∷◌, length, inl, inr, refl, ap, arith, eqb}
use borrow.Author.Tests.{eq-eqb, ne_eqb}
use Rattle.limits.specs.Limits.{kind_array}
use Rattle.facts.specs.Links.{In}
use Rattle.facts.specs.State.{Node, node_of}
use Rattle.paths.specs.Walking.{ups, upward}
use Rattle.paths.proofs.Climbing.{ups_length}
use Rattle.kinds.specs.Kinds.{arrays_up, arrays_in_path}

-- how many of them are arrays
pub arrays_of : List Node → List ℕ → ℕ
arrays_of s [] = 0
arrays_of s (r ∷ rs) = cond (eqb (node_of s r).kind kind_array) 1 0 + arrays_of s rs

arrays_ups : (n : ℕ) (s : List Node) (r : ℕ) → arrays_of s (ups n s r) ≡ arrays_up n s r
unfolding arrays_of ups arrays_up
arrays_ups zero s r = refl
arrays_ups (suc n) s r = go (eqb r 0) (arrays_ups n s (node_of s r).parent)
  where
    go : (b : Bool) → arrays_of s (ups n s (node_of s r).parent) ≡ arrays_up n s (node_of s r).parent
        → arrays_of s (cond b [] (r ∷ ups n s (node_of s r).parent)) ≡ cond b 0 (cond (eqb (node_of s r).kind kind_array) 1 0 + arrays_up n s (node_of s r).parent)
    go true e = refl
    go false e = ap (λ (x : ℕ). cond (eqb (node_of s r).kind kind_array) 1 0 + x) e

-- the arrays met and those of the records ms that are left come to all of them
pub record Counting (s : List Node) (r arrays : ℕ) (ms : List ℕ) : Type 0 where
  pub members : (m : ℕ) → In m ms → In m (upward s r)
  pub fits : arrays + length ms ≤ r
  pub same : arrays + arrays_of s ms ≡ arrays_in_path s r

pub counting_start : (s : List Node) (r : ℕ) (ms : List ℕ) → ms ≡ upward s r → Counting s r 0 ms
unfolding arrays_in_path
counting_start s r ms e =
    let l = ups_length r s r in
    let a = arrays_ups r s r in
    rw e (record { members = λ m i. i; fits = omega arith; same = omega arith })

module _ (s : List Node) (r arrays : ℕ) (ms ns : List ℕ) (c : ℕ) (I : Counting s r arrays ms) (is : ms ≡ c ∷ ns) where
  pub counting_in : In c (upward s r)
  counting_in = I.members c (rw is (inl refl))

  pub counting_fits : arrays + 1 ≤ r
  counting_fits = let l = ap length is in let f = I.fits in omega arith

  step : (one : ℕ) → one ≤ 1 → cond (eqb (node_of s c).kind kind_array) 1 0 ≡ one → Counting s r (arrays + one) ns
  unfolding arrays_of
  step one o q = record {
    members = λ m i. I.members m (rw is (inr i));
    fits = let l = ap length is in let f = I.fits in omega arith;
    same = let a = ap (arrays_of s) is in let b = I.same in omega arith;
  }

  pub counting_array : (node_of s c).kind ≡ kind_array → Counting s r (arrays + 1) ns
  counting_array a = step 1 (omega arith) (rw (eq-eqb (node_of s c).kind kind_array a) refl)

  pub counting_other : ((node_of s c).kind ≡ kind_array → ⊥) → Counting s r arrays ns
  counting_other a =
      let z : arrays ≡ arrays + 0 = omega arith in
      rw z (step 0 (omega arith) (rw (ne_eqb (node_of s c).kind kind_array a) refl))

pub counting_done : (s : List Node) (r arrays : ℕ) (ms : List ℕ) → Counting s r arrays ms → ms ≡ [] → arrays ≡ arrays_in_path s r
unfolding arrays_of
counting_done s r arrays ms I e = let a = ap (arrays_of s) e in let b = I.same in omega arith
