-- A label that is well formed names a used record, and so do those of a step that has passed question 5.
use Prim.Native.Nat.{ℕ, ◌+◌, ◌<◌}
use mathlib.Core.Path.{◌≡◌, refl, sym, ap, ◌∙◌}
use mathlib.Core.Bool.{Bool, true, false, cond, ◌&&◌, and-eq-true_iff}
use mathlib.Core.List.{List}
use native.Mathlib.Omega.{arith}
use lib.Dec.{eqb, leb}
use lib.ListN.{get_or}
use borrow.Author.Tests.{lt-leb, leb-true, eqb-true}
use Rattle.zeros.specs.Zeros.{zeros}
use Rattle.limits.specs.Between.{between}
use Rattle.limits.specs.Layout.{label_offset, label_path, label_call_data, label_argument, label_zero_test, slot_label}
use Rattle.limits.specs.Layout.{step_first, step_second, step_load}
use Rattle.labels.specs.declared.Val.{Val}
use Rattle.labels.specs.declared.Label.TheVariants.{Unlabelled, CallData, Arg, IsZeroResult}
use Rattle.labels.specs.Label.{val_at, label_of, label_at}
use Rattle.labels.specs.Formed.{is_mask, is_label, are_slots, are_entries}
use Rattle.labels.specs.Step.{step_of}
use Rattle.operations.specs.Asks.{IsUsed}
use Rattle.analyze.specs.Ready.{LabelReaches, StepReaches}
use Rattle.step.specs.Questions.{labels_fit}

-- a label that is well formed reaches a used record
module _ (used : ℕ) (s : List ℕ) (at : ℕ) where
  path_used : is_label used s at ≡ true → 1 < get_or s at 0 → IsUsed used (val_at s at).path
  unfolding is_label
  path_used e h =
      let k = get_or s at 0 in
      let p = get_or s (at + label_path) 0 in
      let f = ap (λ (b : Bool). cond b (zeros s (at + label_offset) 12) (leb k label_zero_test && between 1 used p && is_mask s at)) (sym (lt-leb k label_call_data h)) ∙ e in
      let g = ((and-eq-true_iff (leb k label_zero_test && between 1 used p) (is_mask s at)).0 f).0 in
      let w = (and-eq-true_iff (leb 1 p) (leb p used)).0 ((and-eq-true_iff (leb k label_zero_test) (between 1 used p)).0 g).1 in
      record { from = leb-true 1 p w.0; to = leb-true p used w.1 }

  by_kind : (b2 b3 b1 : Bool) (v : Val) → (b2 ≡ true → IsUsed used v.path) → (b3 ≡ true → IsUsed used v.path)
      → LabelReaches used (cond b2 (Arg v) (cond b3 (IsZeroResult v) (cond b1 CallData Unlabelled)))
  by_kind true b3 b1 v f g = f refl
  by_kind false true b1 v f g = g refl
  by_kind false false true v f g = tt
  by_kind false false false v f g = tt

  label_reaches : is_label used s at ≡ true → LabelReaches used (label_at s at)
  unfolding label_of
  label_reaches e =
      let k = get_or s at 0 in
      by_kind (eqb k label_argument) (eqb k label_zero_test) (eqb k label_call_data) (val_at s at)
      (λ q. let z = eqb-true k label_argument q in path_used e (omega arith))
      (λ q. let z = eqb-true k label_zero_test q in path_used e (omega arith))

pub step_reaches : (used : ℕ) (stack memory x : List ℕ) → labels_fit used stack memory x ≡ true
    → StepReaches used (step_of x)
unfolding labels_fit step_of
step_reaches used stack memory x e =
    let a = are_slots used stack && are_entries used memory in
    let f = is_label used x (step_first + slot_label) in
    let g = is_label used x (step_second + slot_label) in
    let p = (and-eq-true_iff (a && f && g) (is_label used x step_load)).0 e in
    let q = (and-eq-true_iff (a && f) g).0 p.0 in
    record {
      first = label_reaches used x (step_first + slot_label) ((and-eq-true_iff a f).0 q.0).1;
      second = label_reaches used x (step_second + slot_label) q.1;
      load = label_reaches used x step_load p.1;
    }
