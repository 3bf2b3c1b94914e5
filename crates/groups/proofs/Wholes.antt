-- What `is_group` tells, and that what is read by a front's counts is a whole group.
use Prim.Native.Nat.{ℕ, ◌+◌, ◌≤◌}
use mathlib.Core.Path.{◌≡◌, refl, sym, ap, ◌∙◌}
use mathlib.Core.Bool.{Bool, true, false}
use mathlib.Core.List.{List, ◌++◌}
use native.Mathlib.Omega.{arith}
use lib.Dec.{eqb}
use lib.ListN.{length, length-append}
use borrow.Author.Tests.{eqb-true, eqb-false, eq-eqb, le-leb}
use Rattle.facts.specs.Checks.{Tells}
use Rattle.std.specs.Prelude.{Option, Some, None}
use Rattle.trace.specs.Fits.{group_fits}
use Rattle.trace.specs.Group.{front_bytes, slot_count, entry_count, rest_bytes, group_rest}
use Rattle.trace.proofs.FitLaws.{slots_fit, entries_fit}
use Rattle.trace.proofs.GroupLaws.{over_unfit, bytes_fit, rest_front}
use Rattle.groups.specs.Group.{IsGroup}

differ : (b : Bool) → b ≡ true → b ≡ false → ⊥
differ b t f = let z : ◌≡◌ {A = ℕ} 0 1 = cc in omega arith

module _ (bs : List ℕ) (front : front_bytes ≤ length bs) (r : Option ℕ) (is : r ≡ group_rest bs) where
  pub counts_over : r ≡ None → IsGroup bs → ⊥
  counts_over e g =
      differ (group_fits (slot_count bs) (entry_count bs)) (simp (le-leb _ _ g.slots, le-leb _ _ g.entries)) (over_unfit bs (sym is ∙ e))

  -- as many bytes as the counts ask for
  pub as_many : (n : ℕ) → r ≡ Some n → Tells (eqb (length bs) (front_bytes + n)) (IsGroup bs)
  as_many n e = go (eqb (length bs) (front_bytes + n)) refl
    where
      fit : (group_fits (slot_count bs) (entry_count bs) ≡ true) × (rest_bytes bs ≡ n)
      fit = bytes_fit bs n (sym is ∙ e)

      go : (b : Bool) → eqb (length bs) (front_bytes + n) ≡ b → Tells b (IsGroup bs)
      go true t =
          record {
            front = front;
            slots = slots_fit (slot_count bs) (entry_count bs) true (sym fit.0) refl;
            entries = entries_fit (slot_count bs) (entry_count bs) true (sym fit.0) refl;
            whole = eqb-true (length bs) (front_bytes + n) t ∙ ap (λ (k : ℕ). front_bytes + k) (sym fit.1);
          }
      go false t = λ g. eqb-false (length bs) (front_bytes + n) t (g.whole ∙ ap (λ (k : ℕ). front_bytes + k) fit.1)

-- what is read behind a front by its counts makes a whole group of it
pub read_whole : (front rest : List ℕ) (n : ℕ) → length front ≡ front_bytes → group_rest front ≡ Some n → length rest ≡ n → IsGroup (front ++ rest)
read_whole front rest n ef e er =
    let long = length-append front rest in
    let said = as_many (front ++ rest) (omega arith) (group_rest front) (sym (rest_front front rest ef)) n e in
    rw (eq-eqb (length (front ++ rest)) (front_bytes + n) (omega arith)) at said
