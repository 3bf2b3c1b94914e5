-- Reading a label and writing it back changes nothing, and a label that was written is read again.
use Prim.Native.Nat.{ℕ, zero, suc, ◌+◌, ◌^◌, ◌≤◌, ◌<◌}
use mathlib.Core.Path.{◌≡◌, refl, sym, ap, ◌∙◌}
use mathlib.Core.Bool.{Bool, true, cond, ◌&&◌}
use mathlib.Core.List.{List, [], ◌∷◌}
use mathlib.Core.Logic.{⊎_elim}
use native.Mathlib.Nat.{eq-or-lt_of_le, add-zero}
use native.Mathlib.Omega.{arith}
use borrow.Author.Tests.{leb-true, leb-false, eqb-true, eqb-false}
use borrow.Table.Steps.{cases}
use lib.Dec.{eqb, leb}
use lib.ListN.{length, get_or, set, replicate, length-append, get_or-append}
use lib.Seq.{sets, length-sets, set-get_or}
use Rattle.std.specs.Prelude.{Option, Some, None}
use Rattle.limits.specs.Between.{between}
use Rattle.limits.specs.Layout.{label_width, label_offset, label_path, label_added, label_masked, label_mask, label_call_data}
use Rattle.limits.specs.Layout.{label_argument, label_zero_test, slot_width, slot_label}
use Rattle.word.specs.Numbers.{limb_at, limbs_at, numbers_of}
use Rattle.word.proofs.Comparisons.{both_true}
use Rattle.word.proofs.EightNumbers.{get_d_sets, read_written, written_read}
use Rattle.word.specs.declared.U256.{U256}
use Rattle.labels.specs.declared.Label.{Label}
use Rattle.labels.specs.declared.Label.TheVariants.{Unlabelled, CallData, Arg, IsZeroResult}
use Rattle.labels.specs.declared.Val.{Val}
use Rattle.labels.specs.declared.Element.{Element}
use Rattle.labels.specs.Label.{mask_at, val_at, label_at, mask_numbers, val_numbers, label_numbers}
use Rattle.labels.specs.Step.{element_at}
use Rattle.labels.specs.Elements.{element_numbers}
use Rattle.zeros.specs.Zeros.{zeros}
use Rattle.zeros.proofs.Laws.{zeros_each}
use Rattle.labels.specs.Formed.{is_mask, is_label}
use Rattle.labels.specs.Read.{ReadAs}
use Rattle.labels.proofs.Readings.{mask_there, no_mask, val_read, arg_read, zero_read, data_read, none_read}
use Rattle.labels.proofs.Readings.{element_read}

-- reading and then writing
module _ (s : List ℕ) where
  -- a number that stands there already
  same_number : (i j v : ℕ) (vs : List ℕ) → suc i ≡ j → v ≡ get_or s i 0 → sets s j vs ≡ s → sets s i (v ∷ vs) ≡ s
  same_number i j v vs q e more =
      ap (λ (x : ℕ). sets (set s i x) (suc i) vs) e ∙ ap (λ (t : List ℕ). sets t (suc i) vs) (set-get_or s i 0) ∙ ap (λ (k : ℕ). sets s k vs) q ∙ more

  same_zeros : (n i : ℕ) → ((k : ℕ) → k < n → get_or s (i + k) 0 ≡ 0) → sets s i (replicate n 0) ≡ s
  same_zeros zero i z = refl
  same_zeros (suc n) i z =
      same_number i (suc i) 0 (replicate n 0) refl
      (sym (z 0 (omega arith)) ∙ ap (λ (k : ℕ). get_or s k 0) (add-zero i))
      (same_zeros n (suc i) (λ (k : ℕ) (l : k < n). let q : suc i + k ≡ i + suc k = omega arith in ap (λ (x : ℕ). get_or s x 0) q ∙ z (suc k) (omega arith)))

  zeros_kept : (n i : ℕ) → zeros s i n ≡ true → sets s i (replicate n 0) ≡ s
  zeros_kept n i e = same_zeros n i (zeros_each s i n e)

  module _ (small : (i : ℕ) → get_or s i 0 < 2 ^ 32) (at : ℕ) where
    mask_kept : is_mask s at ≡ true → sets s (at + label_masked) (mask_numbers (mask_at s at)) ≡ s
    mask_kept e =
        let m = get_or s (at + label_masked) 0 in
        cases (eqb m 0)
        (λ z.
        let is_zero : m ≡ 0 = eqb-true m 0 z in
        let unmasked = no_mask s at (λ q. omega (arith, q, is_zero)) in
        ap (λ (x : Option U256). sets s (at + label_masked) (mask_numbers x)) (sym unmasked)
        ∙ same_number (at + label_masked) (at + label_mask) 0 (replicate 8 0) (omega arith) (sym is_zero)
        (zeros_kept 8 (at + label_mask) (sym (ap (λ (b : Bool). cond b (zeros s (at + label_mask) 8) (eqb m 1)) z) ∙ e)))
        (λ z.
        let is_one : m ≡ 1 = eqb-true m 1 (sym (ap (λ (b : Bool). cond b (zeros s (at + label_mask) 8) (eqb m 1)) z) ∙ e) in
        ap (λ (x : Option U256). sets s (at + label_masked) (mask_numbers x)) (sym (mask_there s at _ is_one refl))
        ∙ same_number (at + label_masked) (at + label_mask) 1 (numbers_of (limbs_at s (at + label_mask))) (omega arith) (sym is_one) (written_read s (at + label_mask) small))

    val_kept : (kind : ℕ) → kind ≡ get_or s at 0 → is_mask s at ≡ true → sets s at (val_numbers kind (val_at s at)) ≡ s
    val_kept kind e masked =
        let m : List ℕ = mask_numbers (mask_at s at) in
        let o = get_or s (at + label_offset) 0 in
        let p = get_or s (at + label_path) 0 in
        let a = get_or s (at + label_added) 0 in
        same_number at (at + label_offset) kind (o ∷ p ∷ a ∷ m) (omega arith) e
        (same_number (at + label_offset) (at + label_path) o (p ∷ a ∷ m) (omega arith) refl
        (same_number (at + label_path) (at + label_added) p (a ∷ m) (omega arith) refl
        (same_number (at + label_added) (at + label_masked) a m (omega arith) refl (mask_kept masked))))

    blank_kept : (kind : ℕ) → kind ≡ get_or s at 0 → zeros s (at + label_offset) 12 ≡ true → sets s at (kind ∷ replicate 12 0) ≡ s
    blank_kept kind e z = same_number at (at + label_offset) kind (replicate 12 0) (omega arith) e (zeros_kept 12 (at + label_offset) z)

    -- a well formed label that is read and written back changes nothing
    pub label_kept : (used : ℕ) → is_label used s at ≡ true → sets s at (label_numbers (label_at s at)) ≡ s
    unfolding is_label
    label_kept used e =
        let kind = get_or s at 0 in
        let zs = zeros s (at + label_offset) 12 in
        let path = get_or s (at + label_path) 0 in
        let rest = leb kind label_zero_test && between 1 used path && is_mask s at in
        let to : Label → List ℕ = λ (l : Label). sets s at (label_numbers l) in
        cases (leb kind label_call_data)
        (λ low.
        let unused : zs ≡ true = sym (ap (λ (b : Bool). cond b zs rest) low) ∙ e in
        cases (eqb kind label_call_data)
        (λ k.
        let q : kind ≡ label_call_data = eqb-true kind label_call_data k in
        ap to (sym (data_read s at (λ x. omega (arith, x, q)) (λ x. omega (arith, x, q)) q)) ∙ blank_kept label_call_data (sym q) unused)
        (λ k.
        let h : kind ≤ label_call_data = leb-true kind label_call_data low in
        let n = eqb-false kind label_call_data k in
        let q : 0 ≡ kind = ⊎_elim (λ x. absurd (n x)) (λ (x : kind < label_call_data). omega (arith, x)) (eq-or-lt_of_le h) in
        ap to (sym (none_read s at (λ x. omega (arith, x, q)) (λ x. omega (arith, x, q)) n)) ∙ blank_kept 0 q unused))
        (λ high.
        let all : rest ≡ true = sym (ap (λ (b : Bool). cond b zs rest) high) ∙ e in
        let l : label_call_data < kind = leb-false kind label_call_data high in
        let parts = both_true (leb kind label_zero_test && between 1 used path) (is_mask s at) all in
        let h : kind ≤ label_zero_test = leb-true kind label_zero_test (both_true (leb kind label_zero_test) (between 1 used path) parts.0).0 in
        let masked = parts.1 in
        cases (eqb kind label_argument)
        (λ k.
        let q : kind ≡ label_argument = eqb-true kind label_argument k in
        ap to (sym (arg_read s at _ q refl)) ∙ val_kept label_argument (sym q) masked)
        (λ k.
        let n = eqb-false kind label_argument k in
        let q : kind ≡ label_zero_test = ⊎_elim (λ x. x) (λ (x : kind < label_zero_test). absurd (n (omega (arith, x, l)))) (eq-or-lt_of_le h) in
        ap to (sym (zero_read s at _ n q refl)) ∙ val_kept label_zero_test (sym q) masked))

  -- the same for a slot
  pub slot_kept : ((i : ℕ) → get_or s i 0 < 2 ^ 32) → (at used : ℕ) → is_label used s (at + slot_label) ≡ true → sets s at (element_numbers (element_at s at)) ≡ s
  slot_kept small at used e =
      let ns = label_numbers (label_at s (at + slot_label)) in
      let place : suc (suc (suc (suc (suc (suc (suc (suc at))))))) ≡ at + slot_label = omega arith in
      ap (λ (t : List ℕ). sets t (suc (suc (suc (suc (suc (suc (suc (suc at)))))))) ns) (written_read s at small) ∙ ap (λ (k : ℕ). sets s k ns) place
      ∙ label_kept small (at + slot_label) used e

-- what kinds 0 and 1 hold
abbrev blank : Val
blank = record { offset = 0; path = 0; add_val = 0; and_mask = None }

-- how many numbers
mask_length : (m : Option U256) → length (mask_numbers m) ≡ 9
mask_length None = refl
mask_length (Some m) = refl

label_length : (l : Label) → length (label_numbers l) ≡ label_width
label_length Unlabelled = refl
label_length CallData = refl
label_length (Arg v) = ap (λ (n : ℕ). suc (suc (suc (suc n)))) (mask_length v.and_mask)
label_length (IsZeroResult v) = ap (λ (n : ℕ). suc (suc (suc (suc n)))) (mask_length v.and_mask)

-- writing and then reading
module _ (s : List ℕ) (at : ℕ) where
  module _ (fits : at + label_width ≤ length s) where
    module _ (kind o p a : ℕ) where
      mask_again : (m : Option U256) → m ≡ mask_at (sets s at (kind ∷ o ∷ p ∷ a ∷ mask_numbers m)) at
      mask_again None =
          let ns : List ℕ = kind ∷ o ∷ p ∷ a ∷ mask_numbers None in
          let is_zero : get_or (sets s at ns) (at + label_masked) 0 ≡ 0 = get_d_sets s ns at label_masked fits (omega arith) in
          no_mask (sets s at ns) at (λ q. omega (arith, q, is_zero))
      mask_again (Some m) =
          let before : List ℕ = sets s at (kind ∷ o ∷ p ∷ a ∷ 1 ∷ []) in
          let place : suc (suc (suc (suc (suc at)))) ≡ at + label_mask = omega arith in
          let room : at + label_mask + 8 ≤ length before = rw (length-sets s at (kind ∷ o ∷ p ∷ a ∷ 1 ∷ [])) (omega arith) in
          let ns : List ℕ = kind ∷ o ∷ p ∷ a ∷ mask_numbers (Some m) in
          mask_there (sets s at ns) at m (get_d_sets s ns at label_masked fits (omega arith))
          (sym (ap (λ (k : ℕ). limbs_at (sets before k (numbers_of m)) (at + label_mask)) place ∙ read_written before (at + label_mask) m room))

      stored : (m : Option U256) (i : ℕ) → i < 5 → get_or (sets s at (kind ∷ o ∷ p ∷ a ∷ mask_numbers m)) (at + i) 0 ≡ get_or (kind ∷ o ∷ p ∷ a ∷ mask_numbers m) i 0
      stored m i l = get_d_sets s (kind ∷ o ∷ p ∷ a ∷ mask_numbers m) at i (omega (arith, fits, mask_length m)) (omega (arith, l, mask_length m))

    kind_again : (kind : ℕ) (v : Val) → get_or (sets s at (val_numbers kind v)) at 0 ≡ kind
    kind_again kind v = ap (λ (k : ℕ). get_or (sets s at (val_numbers kind v)) k 0) (sym (add-zero at)) ∙ stored kind _ _ _ v.and_mask 0 (omega arith)

    val_again : (kind : ℕ) (v : Val) → v ≡ val_at (sets s at (val_numbers kind v)) at
    val_again kind v =
        let there = stored kind v.offset v.path v.add_val v.and_mask in
        val_read (sets s at (val_numbers kind v)) at v.offset v.path v.add_val v.and_mask
        (sym (there label_offset (omega arith)))
        (sym (there label_path (omega arith)))
        (sym (there label_added (omega arith)))
        (mask_again kind v.offset v.path v.add_val v.and_mask)

    -- a label that was written is read again
    pub label_read : (l : Label) → label_at (sets s at (label_numbers l)) at ≡ l
    label_read Unlabelled =
        let k : get_or (sets s at (label_numbers Unlabelled)) at 0 ≡ 0 = kind_again 0 blank in
        sym (none_read (sets s at (label_numbers Unlabelled)) at (λ q. omega (arith, q, k)) (λ q. omega (arith, q, k)) (λ q. omega (arith, q, k)))
    label_read CallData =
        let k : get_or (sets s at (label_numbers CallData)) at 0 ≡ label_call_data = kind_again label_call_data blank in
        sym (data_read (sets s at (label_numbers CallData)) at (λ q. omega (arith, q, k)) (λ q. omega (arith, q, k)) k)
    label_read (Arg v) = sym (arg_read (sets s at (label_numbers (Arg v))) at v (kind_again label_argument v) (val_again label_argument v))
    label_read (IsZeroResult v) =
        let k = kind_again label_zero_test v in
        sym (zero_read (sets s at (label_numbers (IsZeroResult v))) at v (λ q. omega (arith, q, k)) k (val_again label_zero_test v))

-- words whose eight numbers agree
limbs_same : (t u : List ℕ) (at : ℕ) → ((i : ℕ) → i < 8 → get_or t (at + i) 0 ≡ get_or u (at + i) 0) → limbs_at t at ≡ limbs_at u at
limbs_same t u at e j = record {
  l3 = limb 0 at (omega arith) (add-zero at) j;
  l2 = limb 2 (at + 2) (omega arith) refl j;
  l1 = limb 4 (at + 4) (omega arith) refl j;
  l0 = limb 6 (at + 6) (omega arith) refl j;
}
  where
    limb : (k i : ℕ) → k ≤ 6 → at + k ≡ i → limb_at t i ≡ limb_at u i
    limb k i l q =
        let next : at + suc k ≡ i + 1 = omega arith in
        rw (← next, ← q) (omega (arith, e k (omega arith), e (suc k) (omega arith)))

-- a slot that was written is read again
pub slot_read : (s : List ℕ) (at : ℕ) → at + slot_width ≤ length s → (e : Element) → element_at (sets s at (element_numbers e)) at ≡ e
slot_read s at fits e =
    let ns : List ℕ = label_numbers e.label in
    let n : length ns ≡ label_width = label_length e.label in
    let before : List ℕ = sets s at (numbers_of e.word) in
    let place : suc (suc (suc (suc (suc (suc (suc (suc at))))))) ≡ at + slot_label = omega arith in
    let room : at + slot_label + label_width ≤ length before = rw (length-sets s at (numbers_of e.word)) (omega arith) in
    sym (element_read (sets s at (element_numbers e)) at e.word e.label
    (sym
    (limbs_same (sets s at (element_numbers e)) before at
    (λ (i : ℕ) (l : i < 8). first_eight i l n)
    ∙ read_written s at e.word (omega arith)))
    (sym (ap (λ (k : ℕ). label_at (sets before k ns) (at + slot_label)) place ∙ label_read before (at + slot_label) room e.label)))
  where
    first_eight : (i : ℕ) → i < 8 → length (label_numbers e.label) ≡ label_width → get_or (sets s at (element_numbers e)) (at + i) 0 ≡ get_or (sets s at (numbers_of e.word)) (at + i) 0
    first_eight i l n =
        get_d_sets s (element_numbers e) at i (omega (arith, n, fits, length-append (numbers_of e.word) (label_numbers e.label))) (omega (arith, l, length-append (numbers_of e.word) (label_numbers e.label)))
        ∙ get_or-append (numbers_of e.word) (label_numbers e.label) 0 i l
        ∙ sym (get_d_sets s (numbers_of e.word) at i (omega (arith, fits)) l)

-- what is promised of a label that is read
pub read_as : (s : List ℕ) (at : ℕ) (l : Label) → l ≡ label_at s at → ReadAs s at l
read_as s at l e = record {
  is = e;
  numbers = λ small used f. ap (λ (x : Label). sets s at (label_numbers x)) e ∙ label_kept s small at used f;
}
