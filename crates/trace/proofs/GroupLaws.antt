-- What follows the front of a group: both answers of `group_rest`, room for the longest, and that it is said by the
-- front alone.
use mathlib.Core.Path.{◌≡◌, refl, sym, ap, ◌∙◌}
use mathlib.Core.Bool.{Bool, true, false, not, cond}
use mathlib.Core.List.{List, ◌++◌}
use Prim.Native.Nat.{ℕ, ◌+◌, ◌*◌, ◌≤◌}
use native.Mathlib.Omega.{arith}
use borrow.Author.Tests.{not-true, not-false}
use lib.ListN.{length, get_or-append}
use Rattle.limits.specs.Input.{number_bytes, group_slots, group_entries}
use Rattle.limits.specs.Layout.{slot_width, entry_width}
use Rattle.std.specs.Prelude.{Some, None}
use Rattle.trace.specs.Fits.{group_fits}
use Rattle.trace.specs.Numbers.{number_at}
use Rattle.trace.specs.Group.{front_bytes, slot_count, entry_count, rest_bytes, group_rest}

module _ (bs : List ℕ) where
  by : (b : Bool) → group_fits (slot_count bs) (entry_count bs) ≡ b → group_rest bs ≡ cond b (Some (rest_bytes bs)) None
  unfolding group_rest
  by b e = ap (λ (x : Bool). cond x (Some (rest_bytes bs)) None) e

  module _ (s e : ℕ) (r : Bool) (es : s ≡ slot_count bs) (ee : e ≡ entry_count bs) (is : r ≡ group_fits s e) where
    fits : (b : Bool) → r ≡ b → group_fits (slot_count bs) (entry_count bs) ≡ b
    fits b e' = (λ i. group_fits (sym es i) (sym ee i)) ∙ sym is ∙ e'

    pub rest_over : not r ≡ true → None ≡ group_rest bs
    rest_over n = sym (by false (fits false (not-true r n)))

    pub rest_bytes_lem : not r ≡ false → Some ((s * slot_width + e * entry_width) * number_bytes) ≡ group_rest bs
    rest_bytes_lem n =
        (λ i. Some ((es i * slot_width + ee i * entry_width) * number_bytes)) ∙ sym (by true (fits true (not-false r n)))

  -- the other way round
  pub over_unfit : group_rest bs ≡ None → group_fits (slot_count bs) (entry_count bs) ≡ false
  over_unfit e = go (group_fits (slot_count bs) (entry_count bs)) refl
    where
      go : (b : Bool) → group_fits (slot_count bs) (entry_count bs) ≡ b → b ≡ false
      go true f =
          let same = sym (by true f) ∙ e in
          let z : ◌≡◌ {A = ℕ} 0 1 = cc in
          absurd (let n : ⊥ = omega arith in n)
      go false f = refl

  pub bytes_fit : (n : ℕ) → group_rest bs ≡ Some n
      → (group_fits (slot_count bs) (entry_count bs) ≡ true) × (rest_bytes bs ≡ n)
  bytes_fit n e = go (group_fits (slot_count bs) (entry_count bs)) refl
    where
      go : (b : Bool) → group_fits (slot_count bs) (entry_count bs) ≡ b → (b ≡ true) × (rest_bytes bs ≡ n)
      go true f =
          let same = sym (by true f) ∙ e in
          (refl, cc)
      go false f =
          let same = sym (by false f) ∙ e in
          let z : ◌≡◌ {A = ℕ} 0 1 = cc in
          absurd (let n : ⊥ = omega arith in n)

-- a group is sized by its front, whatever stands behind
module _ (front rest : List ℕ) (long : length front ≡ front_bytes) where
  number_front : (at : ℕ) → at + number_bytes ≤ front_bytes → number_at (front ++ rest) at ≡ number_at front at
  unfolding number_at
  number_front at h =
      let a = get_or-append front rest 0 at (omega arith) in
      let b = get_or-append front rest 0 (at + 1) (omega arith) in
      let c = get_or-append front rest 0 (at + 2) (omega arith) in
      let d = get_or-append front rest 0 (at + 3) (omega arith) in
      omega (arith, a, b, c, d)

  pub rest_front : group_rest (front ++ rest) ≡ group_rest front
  unfolding group_rest
  rest_front =
      let s : slot_count (front ++ rest) ≡ slot_count front = number_front (group_slots * number_bytes) (omega arith) in
      let e : entry_count (front ++ rest) ≡ entry_count front = number_front (group_entries * number_bytes) (omega arith) in
      λ i. cond (group_fits (s i) (e i)) (Some ((s i * slot_width + e i * entry_width) * number_bytes)) None
