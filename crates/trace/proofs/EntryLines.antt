-- An entry's line: its number, a blank, the text that the text call stores behind it, and a newline.
use mathlib.Core.Path.{◌≡◌, refl, sym, ap, ◌∙◌, subst}
use mathlib.Core.Bool.{true}
use mathlib.Core.List.{List, [], ◌++◌, append_assoc, append-nil}
use Prim.Native.Nat.{ℕ, ◌+◌, ◌-◌, ◌≤◌, ◌<◌}
use native.Mathlib.Omega.{arith}
use lib.ListN.{length, take, drop, length-take, length-drop, drop_of_length-le}
use lib.Seq.{sets, length-sets, sets-eq, take_all, drop-drop}
use borrow.Author.Tests.{eqb-false}
use borrow.Rule.Slice.PartMut.{mid_of, post_of, put_mid}
use Rattle.names.specs.Ascii.{ascii}
use Rattle.names.specs.Decimal.{decimal}
use Rattle.names.proofs.Decimals.{decimal_short}
use Rattle.spell.specs.Stored.{StoredAt}
use Rattle.spell.proofs.Stores.{stored_both}
use Rattle.std.specs.Prelude.{Ok, Err}
use Rattle.std.specs.declared.result.Result.{Result}
use Rattle.limits.specs.Refusal.{taken, answer_number, number_of as refusal_number}
use Rattle.limits.specs.declared.refusal.Refusal.{Refusal}
use Rattle.limits.proofs.Refusals.{not_taken}
use Rattle.types.specs.Tree.{AbiType, AbiTypes, nil, cons, well_formed}
use Rattle.types.specs.Codes.{codes, Spells, Passes}
use Rattle.types.specs.Text.{list_text}
use Rattle.types.proofs.Formed.{cons_formed}
use Rattle.types.proofs.Shorts.{list_short}
use Rattle.types.proofs.Unique.{only_types}
use Rattle.text.specs.Call.{over, Outcome, written as text-written, no_types as text-no-types, too_long}
use Rattle.text.specs.Call.{length_of}
use Rattle.trace.specs.Text.{entry_line}
use Rattle.trace.specs.Lines.{EntryStored, written, no_types}

-- the part of a list from a on, with a text at its start, is the list with the text stored from a on
part_stored : (xs t : List ℕ) (a : ℕ) → a + length t ≤ length xs
    → put_mid a (length xs - a) xs (over t (mid_of a (length xs - a) xs)) ≡ sets xs a t
part_stored xs t a h =
    let whole : mid_of a (length xs - a) xs ≡ drop a xs =
    take_all (length xs - a) (drop a xs) (omega (arith, length-drop a xs)) in
    let none : post_of a (length xs - a) xs ≡ [] =
    drop_of_length-le (drop a xs) {i = length xs - a} (omega (arith, length-drop a xs)) in
    ap (λ (l : List ℕ). take a xs ++ ((t ++ drop (length t) l) ++ post_of a (length xs - a) xs)) whole
    ∙ ap (λ (l : List ℕ). take a xs ++ ((t ++ drop (length t) (drop a xs)) ++ l)) none
    ∙ ap (λ (l : List ℕ). take a xs ++ l) (append-nil (t ++ drop (length t) (drop a xs)))
    ∙ ap (λ (l : List ℕ). take a xs ++ (t ++ l)) (drop-drop (length t) a xs)
    ∙ sym (append_assoc (take a xs) t (drop (a + length t) xs))
    ∙ sym (sets-eq t xs a h)

-- the number and the blank are stored, behind i and a
module _ (k : ℕ) (cs out mid xs : List ℕ) (to i a : ℕ) (room : to + 73760 ≤ length out)
    (number : StoredAt (decimal k) out to i mid) (gap : StoredAt (ascii " ") mid i a xs) where
  first : StoredAt (decimal k ++ ascii " ") out to a xs
  first = stored_both out mid xs to i a (decimal k) (ascii " ") number gap

  as_long : length xs ≡ length out
  as_long = ap length first.0 ∙ length-sets out to (decimal k ++ ascii " ")

  pub number_near : (to < a) × (a ≤ to + 11)
  number_near = omega (arith, number.1, gap.1, decimal_short k)

  abbrev part : List ℕ
  part = mid_of a (length xs - a) xs

  part_long : length part ≡ length xs - a
  part_long = omega (arith, length-take (length xs - a) (drop a xs), length-drop a xs)

  text_short : (ts : AbiTypes) → Passes ts cs → length (list_text ts) ≤ 73728
  text_short ts p = omega (arith, list_short ts p.spells.formed, ap length p.spells.spelt, p.most)

  module _ (answer : Result ℕ Refusal) (part' : List ℕ)
      (o : Outcome cs part (answer_number answer) (length_of answer) part') where
    pub entry_refused : (out' : List ℕ) (q : Refusal) → answer ≡ Err q → EntryStored k cs out to to out'
    entry_refused out' q e = go (subst (λ (x : Result ℕ Refusal). Outcome cs part (answer_number x) (length_of x) part') e o)
      where
        go : Outcome cs part (refusal_number q) 0 part' → EntryStored k cs out to to out'
        go (text-written ts p h z n w) = absurd (eqb-false (refusal_number q) taken (not_taken q) z)
        go (text-no-types never z n w) = no_types never refl
        go (too_long ts p h z n w) = absurd (omega (arith, text_short ts p, part_long, as_long, number_near))

    module _ (n : ℕ) (e : answer ≡ Ok n) where
      told : Outcome cs part 0 n part'
      told = subst (λ (x : Result ℕ Refusal). Outcome cs part (answer_number x) (length_of x) part') e o

      pub entry_near : (to < a + n) × (a + n ≤ to + 73739)
      entry_near = go told
        where
          go : Outcome cs part 0 n part' → (to < a + n) × (a + n ≤ to + 73739)
          go (text-written ts p h z l q) = (omega (arith, number_near), omega (arith, text_short ts p, number_near))
          go (text-no-types never z l q) = absurd (omega arith)
          go (too_long ts p h z l q) = absurd (omega arith)

      abbrev texted : List ℕ
      texted = put_mid a (length xs - a) xs part'

      pub entry_room : length texted ≡ length xs → a + n + 1 ≤ length texted
      entry_room l = omega (arith, entry_near, as_long)

      pub entry_written : (out' : List ℕ) (r : ℕ) → StoredAt (ascii "\n") texted (a + n) r out'
          → EntryStored k cs out to r out'
      unfolding entry_line
      entry_written out' r end = go told
        where
          go : Outcome cs part 0 n part' → EntryStored k cs out to r out'
          go (text-written ts p h z l q) =
              let fits : a + length (list_text ts) ≤ length xs = omega (arith, text_short ts p, number_near, as_long) in
              let stored = ap (put_mid a (length xs - a) xs) q ∙ part_stored xs (list_text ts) a fits in
              let front : List ℕ = decimal k ++ ascii " " in
              let two = stored_both out xs texted to a (a + n) front (list_text ts) first (stored, omega arith) in
              written ts p (stored_both out texted out' to (a + n) r (front ++ list_text ts) (ascii "\n") two end)
          go (text-no-types never z l q) = absurd (omega arith)
          go (too_long ts p h z l q) = absurd (omega arith)

-- a type's codes are those of the type alone
lone_spells : (t : AbiType) → well_formed t ≡ true → Spells (cons t nil) (codes t)
unfolding codes well_formed
lone_spells t h = record { formed = cons_formed t nil h refl; spelt = append-nil (codes t) }

-- THE LINE OF AN ENTRY: the codes of a well-formed type give its line
pub entry_line_lem : (k : ℕ) (t : AbiType) (out : List ℕ) (to r : ℕ) (out' : List ℕ) → well_formed t ≡ true
    → length (codes t) ≤ 8192 → EntryStored k (codes t) out to r out'
    → StoredAt (entry_line k (cons t nil)) out to r out'
entry_line_lem k t out to r out' h l (written ts p s) =
    let e = only_types ts (cons t nil) (codes t) p.spells (lone_spells t h) in
    subst (λ (us : AbiTypes). StoredAt (entry_line k us) out to r out') e s
entry_line_lem k t out to r out' h l (no_types never z) =
    absurd (never (cons t nil) record { spells = lone_spells t h; most = l })
