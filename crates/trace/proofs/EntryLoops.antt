-- The loop over the entries: what is left to write, written, is what there was to write.
use mathlib.Core.Path.{◌≡◌, refl, sym, ap, ◌∙◌, subst}
use mathlib.Core.Bool.{true}
use mathlib.Core.List.{List, ◌++◌, append_assoc as list-assoc}
use Prim.Native.Nat.{ℕ, suc, ◌+◌, ◌-◌, ◌*◌, ◌≤◌, ◌<◌}
use native.Mathlib.Numerals.{add-one}
use native.Mathlib.Omega.{arith}
use lib.ListN.{length, take, drop, length-append, length-drop}
use lib.Seq.{sets, take-append_seam, drop-append_seam}
use Rattle.types.specs.Tree.{AbiType, AbiTypes, nil, cons, count, append, well_formed, all_well_formed}
use Rattle.types.specs.Codes.{codes, all_codes}
use Rattle.types.specs.Text.{list_text}
use Rattle.types.proofs.Append.{count_append, formed_right, append_assoc}
use Rattle.types.proofs.Formed.{head_formed, tail_formed, cons_formed}
use Rattle.types.proofs.Shorts.{list_short}
use Rattle.types.proofs.Sizes.{count_codes, cons_length}
use Rattle.names.specs.Ascii.{ascii}
use Rattle.names.specs.Decimal.{decimal}
use Rattle.names.proofs.Decimals.{decimal_short}
use Rattle.spell.specs.Stored.{StoredAt}
use Rattle.spell.proofs.Stores.{sets_append, stored_both}
use Rattle.trace.specs.Entry.{span}
use Rattle.trace.specs.Text.{entry_line, entry_lines, args_line, list_lines}
use Rattle.trace.specs.Lines.{EntryStored, Begins, EntriesStored, ListStored}
use Rattle.trace.proofs.Spans.{span_type}
use Rattle.trace.proofs.EntryLines.{entry_line_lem}

-- a line has at most twelve bytes beside the text, and lines at most 21 for each code
line_short : (k : ℕ) (ts : AbiTypes) → all_well_formed ts ≡ true → length (entry_line k ts) ≤ 12 + 9 * length (all_codes ts)
unfolding entry_line
line_short k ts h =
    let front : List ℕ = decimal k ++ ascii " " in
    omega (
      arith,
      decimal_short k,
      list_short ts h,
      length-append (front ++ list_text ts) (ascii "\n"),
      length-append front (list_text ts),
      length-append (decimal k) (ascii " "),
    )

lines_short : (k : ℕ) (ts : AbiTypes) → all_well_formed ts ≡ true → length (entry_lines k ts) ≤ 21 * length (all_codes ts)
unfolding entry_lines count codes well_formed
lines_short k nil h = omega arith
lines_short k (cons t ts) h =
    omega (
      arith,
      line_short k (cons t nil) (cons_formed t nil (head_formed t ts h) refl),
      lines_short (suc k) ts (tail_formed t ts h),
      length-append (entry_line k (cons t nil)) (entry_lines (suc k) ts),
      cons_length t ts,
      cons_length t nil,
      count_codes (cons t nil),
    )

-- behind k entries, with the codes l left: the types written and those left, and what the lines of these would make of
-- the slice
record Listed (ts : AbiTypes) (rest out₀ : List ℕ) (from : ℕ) (l : List ℕ) (to k : ℕ) (out : List ℕ) : Type 0 where
  done : AbiTypes
  left : AbiTypes
  whole : ts ≡ append done left
  number : count done ≡ k
  place : l ≡ all_codes left ++ rest
  same : sets out to (entry_lines k left) ≡ sets out₀ from (entry_lines 0 ts)
  end : to + length (entry_lines k left) ≡ from + length (entry_lines 0 ts)

pub record Listing (entries : ℕ) (cs out₀ : List ℕ) (from : ℕ) (l : List ℕ) (to k : ℕ) (out : List ℕ) : Type 0 where
  pub few : length l ≤ length cs
  pub size : length out ≡ length out₀
  held : (ts : AbiTypes) (rest : List ℕ) → Begins entries ts rest cs → Listed ts rest out₀ from l to k out

pub listing_none : (entries : ℕ) (cs out : List ℕ) (from : ℕ) → Listing entries cs out from cs from 0 out
unfolding append count
listing_none entries cs out from = record {
  few = omega arith;
  size = refl;
  held =
      λ ts rest B. record { done = nil; left = ts; whole = refl; number = refl; place = B.spelt; same = refl; end = refl };
}

module _ (entries : ℕ) (cs out₀ : List ℕ) (from : ℕ) (l : List ℕ) (to k : ℕ) (out : List ℕ)
    (so_far : Listing entries cs out₀ from l to k out) (most : length cs ≤ 8192) where
  -- the slice can't be full
  pub listing_full : from + 245792 ≤ length out₀ → length out - to < 73760 → EntriesStored entries cs out₀ from to out
  listing_full room h ts rest B =
      let x = so_far.held ts rest B in
      let lines = lines_short 0 ts B.formed in
      let long = length-append (all_codes ts) rest in
      absurd (omega (arith, x.end, so_far.size, ap length B.spelt))

  -- all entries are written
  pub listing_end : entries ≤ k → EntriesStored entries cs out₀ from to out
  unfolding entry_lines count
  listing_end h ts rest B = go (so_far.held ts rest B)
    where
      finish : (us vs : AbiTypes) → ts ≡ append us vs → count us ≡ k
          → sets out to (entry_lines k vs) ≡ sets out₀ from (entry_lines 0 ts)
          → to + length (entry_lines k vs) ≡ from + length (entry_lines 0 ts)
          → (out ≡ sets out₀ from (entry_lines 0 ts)) × (to ≡ from + length (entry_lines 0 ts))
      finish us nil w c s d = (s, omega arith)
      finish us (cons v vs) w c s d = absurd (omega (arith, B.number, count_append us (cons v vs), ap count w))

      go : Listed ts rest out₀ from l to k out
          → (out ≡ sets out₀ from (entry_lines 0 ts)) × (to ≡ from + length (entry_lines 0 ts))
      go x = finish x.done x.left x.whole x.number x.same x.end

  -- one entry more
  module _ (more : k < entries) (n : ℕ) (en : n ≡ span 1 l) (ln : n ≤ length l) (entry behind : List ℕ)
      (ee : entry ≡ take n l) (eb : behind ≡ drop n l) (r : ℕ) (out' : List ℕ)
      (stored : EntryStored k entry out to r out') where
    module _ (ts : AbiTypes) (rest : List ℕ) (B : Begins entries ts rest cs) where
      next : (us : AbiTypes) (v : AbiType) (vs : AbiTypes) → ts ≡ append us (cons v vs) → count us ≡ k
          → l ≡ all_codes (cons v vs) ++ rest → sets out to (entry_lines k (cons v vs)) ≡ sets out₀ from (entry_lines 0 ts)
          → to + length (entry_lines k (cons v vs)) ≡ from + length (entry_lines 0 ts)
          → Listed ts rest out₀ from behind r (k + 1) out'
      unfolding append codes count entry_lines
      next us v vs w c p s d =
          let good = head_formed v vs (formed_right us (cons v vs) (rw w at B.formed)) in
          let after = all_codes vs ++ rest in
          let l-is : l ≡ codes v ++ after = p ∙ list-assoc (codes v) (all_codes vs) rest in
          let n-is : n ≡ length (codes v) = en ∙ ap (span 1) l-is ∙ span_type v after good in
          let entry-is : entry ≡ codes v = ee ∙ (λ j. take (n-is j) (l-is j)) ∙ take-append_seam (codes v) after in
          let behind-is : behind ≡ after = eb ∙ (λ j. drop (n-is j) (l-is j)) ∙ drop-append_seam (codes v) after in
          let its = subst (λ (x : List ℕ). EntryStored k x out to r out') entry-is stored in
          let line = entry_line_lem k v out to r out' good (omega (arith, so_far.few)) its in
          record {
            done = append us (cons v nil);
            left = vs;
            whole = w ∙ sym (append_assoc us (cons v nil) vs);
            number = omega (arith, count_append us (cons v nil));
            place = behind-is;
            same =
                (λ j. sets (line.0 j) (line.1 j) (entry_lines (add-one k j) vs))
                ∙ sym (sets_append out to (entry_line k (cons v nil)) (entry_lines (suc k) vs)) ∙ s;
            end =
                omega (
                  arith,
                  line.1,
                  length-append (entry_line k (cons v nil)) (entry_lines (suc k) vs),
                  ap (λ (m : ℕ). length (entry_lines m vs)) (add-one k),
                );
          }

      some : (us vs : AbiTypes) → ts ≡ append us vs → count us ≡ k → l ≡ all_codes vs ++ rest
          → sets out to (entry_lines k vs) ≡ sets out₀ from (entry_lines 0 ts)
          → to + length (entry_lines k vs) ≡ from + length (entry_lines 0 ts)
          → Listed ts rest out₀ from behind r (k + 1) out'
      unfolding count
      some us nil w c p s d = absurd (omega (arith, B.number, count_append us nil, ap count w))
      some us (cons v vs) w c p s d = next us v vs w c p s d

    pub listing_more : length out' ≡ length out → Listing entries cs out₀ from behind r (k + 1) out'
    listing_more size = record {
      few = omega (arith, so_far.few, ap length eb, length-drop n l);
      size = size ∙ so_far.size;
      held = λ ts rest B.
          let x = so_far.held ts rest B in
          some ts rest B x.done x.left x.whole x.number x.place x.same x.end;
    }

-- the first line and the entries behind it are the list
pub list_stored : (entries left head : ℕ) (cs out out₁ out₂ : List ℕ) (from n r : ℕ)
    → StoredAt (args_line entries left head) out from n out₁ → EntriesStored entries cs out₁ n r out₂
    → ListStored entries left head cs out from r out₂
unfolding list_lines
list_stored entries left head cs out out₁ out₂ from n r s f ts rest B =
    stored_both out out₁ out₂ from n r (args_line entries left head) (entry_lines 0 ts) s (f ts rest B)
