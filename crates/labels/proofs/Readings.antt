-- What is read of a label.
use Prim.Native.Nat.{ℕ, ◌+◌}
use mathlib.Core.Path.{◌≡◌}
use mathlib.Core.List.{List}
use borrow.Author.Tests.{eq-eqb, ne_eqb}
use lib.ListN.{get_or}
use Rattle.std.specs.Prelude.{Option, Some, None}
use Rattle.limits.specs.Layout.{label_offset, label_path, label_added, label_masked, label_mask, label_call_data}
use Rattle.limits.specs.Layout.{label_argument, label_zero_test, slot_label}
use Rattle.word.specs.Numbers.{limbs_at}
use Rattle.word.specs.declared.U256.{U256}
use Rattle.labels.specs.declared.Label.{Label}
use Rattle.labels.specs.declared.Label.TheVariants.{Unlabelled, CallData, Arg, IsZeroResult}
use Rattle.labels.specs.declared.Val.{Val}
use Rattle.labels.specs.declared.Element.{Element}
use Rattle.labels.specs.Label.{mask_at, val_at, label_of, label_at}
use Rattle.labels.specs.Step.{element_at}

module _ (s : List ℕ) (at : ℕ) where
  pub mask_there : (x : U256) → get_or s (at + label_masked) 0 ≡ 1 → x ≡ limbs_at s (at + label_mask) → Some x ≡ mask_at s at
  mask_there x e ex = rw ex (simp (eq-eqb _ 1 e))

  pub no_mask : (get_or s (at + label_masked) 0 ≡ 1 → ⊥) → None ≡ mask_at s at
  no_mask f = simp (ne_eqb _ 1 f)

  pub val_read : (o p a : ℕ) (m : Option U256) → o ≡ get_or s (at + label_offset) 0 → p ≡ get_or s (at + label_path) 0 → a ≡ get_or s (at + label_added) 0 → m ≡ mask_at s at →
      ◌≡◌ {A = Val} (record { offset = o; path = p; add_val = a; and_mask = m }) (val_at s at)
  val_read o p a m eo ep ea em i = record { offset = eo i; path = ep i; add_val = ea i; and_mask = em i }

  pub arg_read : (v : Val) → get_or s at 0 ≡ label_argument → v ≡ val_at s at → Arg v ≡ label_at s at
  unfolding label_of
  arg_read v e ev = rw ev (simp (eq-eqb _ label_argument e))

  pub zero_read : (v : Val) → (get_or s at 0 ≡ label_argument → ⊥) → get_or s at 0 ≡ label_zero_test → v ≡ val_at s at → IsZeroResult v ≡ label_at s at
  unfolding label_of
  zero_read v f e ev = rw ev (simp (ne_eqb _ label_argument f, eq-eqb _ label_zero_test e))

  pub data_read : (get_or s at 0 ≡ label_argument → ⊥) → (get_or s at 0 ≡ label_zero_test → ⊥) → get_or s at 0 ≡ label_call_data → CallData ≡ label_at s at
  unfolding label_of
  data_read f g e = simp (ne_eqb _ label_argument f, ne_eqb _ label_zero_test g, eq-eqb _ label_call_data e)

  pub none_read : (get_or s at 0 ≡ label_argument → ⊥) → (get_or s at 0 ≡ label_zero_test → ⊥) → (get_or s at 0 ≡ label_call_data → ⊥) → Unlabelled ≡ label_at s at
  unfolding label_of
  none_read f g h = simp (ne_eqb _ label_argument f, ne_eqb _ label_zero_test g, ne_eqb _ label_call_data h)

  pub element_read : (w : U256) (l : Label) → w ≡ limbs_at s at → l ≡ label_at s (at + slot_label) → ◌≡◌ {A = Element} (record { word = w; label = l }) (element_at s at)
  element_read w l ew el i = record { word = ew i; label = el i }
