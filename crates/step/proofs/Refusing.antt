-- Questions 3 to 7: each test that fails gives its number and leaves everything, and a step that passes them all has
-- passed.
use Prim.Native.Nat.{ℕ, ◌/◌, ◌≤◌, ◌<◌}
use mathlib.Core.Path.{◌≡◌, refl, sym, ◌∙◌}
use mathlib.Core.Bool.{Bool, true, false, ◌&&◌, and-eq-true_iff}
use mathlib.Core.List.{List}
use lib.Dec.{eqb, leb}
use lib.ListN.{length, get_or}
use borrow.Author.Tests.{le-leb, lt-leb, leb-true, eqb-true}
use Rattle.limits.specs.Limits.{code_max, slots_max, entries_max}
use Rattle.limits.specs.Layout.{slot_width, entry_width, step_width, step_op, step_pick, step_load_flag, step_load, step_second}
use Rattle.word.specs.Numbers.{word_at}
use Rattle.facts.proofs.Encode.{length_nodes}
use Rattle.head.specs.declared.Head.{Head}
use Rattle.head.specs.Held.{held}
use Rattle.head.specs.Admitting.{Admits}
use Rattle.head.specs.Asked.{code_fits}
use Rattle.step.specs.Questions.{are_whole, sizes_fit, labels_fit, load_fits, copy_fits, fields_fit, slot_there}
use Rattle.step.specs.Questions.{step_tests}
use Rattle.step.specs.Call.{Lent, lend, Outcome}
use Rattle.step.specs.Decide.{Passed}
use Rattle.step.proofs.Arriving.{refused_by}

-- what the sizes and the fields say
pub fit_width : (stack memory x : List ℕ) → sizes_fit stack memory x ≡ true → length x ≡ step_width
unfolding sizes_fit
fit_width stack memory x e =
    eqb-true (length x) step_width
    ((and-eq-true_iff (are_whole stack slot_width slots_max && are_whole memory entry_width entries_max) (eqb (length x) step_width)).0 e).1

module _ (memory x : List ℕ) (e : fields_fit memory x ≡ true) where
  abbrev op_fits : Bool
  op_fits = leb (get_or x step_op 0) 255

  abbrev pick_fits : Bool
  pick_fits = leb (get_or x step_pick 0) (length memory / entry_width)

  abbrev load_fits_lem : Bool
  load_fits_lem = load_fits (get_or x step_load_flag 0) (get_or x step_load 0)

  abbrev copy_fits_lem : Bool
  copy_fits_lem = copy_fits (get_or x step_op 0) (word_at x step_second)

  two : (op_fits && pick_fits) ≡ true
  unfolding fields_fit
  two = ((and-eq-true_iff (op_fits && pick_fits) load_fits_lem).0 ((and-eq-true_iff (op_fits && pick_fits && load_fits_lem) copy_fits_lem).0 e).0).0

  pub fit_op : get_or x step_op 0 ≤ 255
  fit_op = leb-true (get_or x step_op 0) 255 ((and-eq-true_iff op_fits pick_fits).0 two).0

  pub fit_pick : get_or x step_pick 0 ≤ length memory / entry_width
  fit_pick = leb-true (get_or x step_pick 0) (length memory / entry_width) ((and-eq-true_iff op_fits pick_fits).0 two).1

module _ (N : ℕ) (head : Head) (table stack memory bytes x : List ℕ) (A : Admits (held head table) N) where
  abbrev l : Lent
  l = lend (held head table) stack memory

  pub long_code : code_max < length bytes → Outcome l bytes x 3 l
  unfolding step_tests
  long_code h = refused_by l bytes x N 3 A refl (simp (lt-leb (length bytes) code_max h))

  module _ (c : length bytes ≤ code_max) (sizes : Bool) (es : sizes ≡ sizes_fit stack memory x) where
    code_fits_lem : code_fits bytes ≡ true
    code_fits_lem = le-leb (length bytes) code_max c

    pub broken_sizes : sizes ≡ false → Outcome l bytes x 4 l
    unfolding step_tests
    broken_sizes q = refused_by l bytes x N 4 A refl (simp (code_fits_lem, sym es ∙ q))

    module _ (qs : sizes ≡ true) where
      sizes_fit_lem : sizes_fit stack memory x ≡ true
      sizes_fit_lem = sym es ∙ qs

      module _ (labels : Bool) (el : labels ≡ labels_fit head.used stack memory x) where
        pub broken_labels : labels ≡ false → Outcome l bytes x 5 l
        unfolding step_tests
        broken_labels q =
            refused_by l bytes x N 5 A refl
            (simp (code_fits_lem, sizes_fit_lem, length_nodes table head.used, sym el ∙ q))

        module _ (ql : labels ≡ true) (fields : Bool) (ef : fields ≡ fields_fit memory x) where
          labels_fit_lem : labels_fit head.used stack memory x ≡ true
          labels_fit_lem = sym el ∙ ql

          pub broken_fields : fields ≡ false → Outcome l bytes x 6 l
          unfolding step_tests
          broken_fields q =
              refused_by l bytes x N 6 A refl
              (simp (code_fits_lem, sizes_fit_lem, length_nodes table head.used, labels_fit_lem, sym ef ∙ q))

          module _ (qf : fields ≡ true) where
            fields_fit_lem : fields_fit memory x ≡ true
            fields_fit_lem = sym ef ∙ qf

            module _ (slot : Bool) (et : slot ≡ slot_there stack (get_or x step_op 0)) where
              pub no_slot : slot ≡ false → Outcome l bytes x 7 l
              unfolding step_tests
              no_slot q =
                  refused_by l bytes x N 7 A refl
                  (simp (code_fits_lem, sizes_fit_lem, length_nodes table head.used, labels_fit_lem, fields_fit_lem, sym et ∙ q))

              pub has_passed : slot ≡ true → Passed N l bytes x
              has_passed q = record {
                admitted = A;
                code = code_fits_lem;
                sizes = sizes_fit_lem;
                labels = labels_fit_lem;
                fields = fields_fit_lem;
                slot = sym et ∙ q;
              }
