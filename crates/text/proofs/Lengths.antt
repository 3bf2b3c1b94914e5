-- The length of the text, code by code, and the count of it from the left.
use mathlib.Core.Path.{◌≡◌, refl, sym, ap, ◌∙◌}
use mathlib.Core.Bool.{true}
use mathlib.Core.List.{List, [], ◌∷◌}
use Prim.Native.Nat.{ℕ, ◌+◌, ◌-◌, ◌*◌, ◌≤◌, ◌<◌}
use native.Mathlib.Numerals.{add-one}
use native.Mathlib.Omega.{arith}
use native.Mathlib.Decide.{ℕ_discrete}
use lib.ListN.{length, get_or, drop, length-append, drop_of_length-le}
use lib.Seq.{drop-cons}
use Rattle.names.specs.Ascii.{ascii}
use Rattle.names.specs.Elementary.{code_of}
use Rattle.names.proofs.Codes.{code_is_name, of_code_lem}
use Rattle.types.specs.Tree.{AbiType, AbiTypes, elementary, array, tuple, nil, cons, count, append, well_formed}
use Rattle.types.specs.Codes.{codes, Spells}
use Rattle.types.specs.Kind.{kind_of}
use Rattle.types.specs.Text.{text, list_text, more_text}
use Rattle.std.specs.Prelude.{Err}
use Rattle.types.specs.declared.kind.UnknownCode.{UnknownCode}
use Rattle.types.proofs.Formed.{tuple_count}
use Rattle.types.proofs.KindLaws.{name_kind, array_kind, tuple_kind}
use Rattle.types.specs.Root.{root, parts}
use Rattle.types.proofs.Roots.{Follows}
use Rattle.types.proofs.Sizes.{count_codes}
use Rattle.types.proofs.Nodes.{Wanted, Step, after, step_wanted, none_wanted, wanted_unknown}
use Rattle.text.specs.Weight.{own, comma_before}
use Rattle.text.proofs.Tallies.{comma_first, comma_none}

-- the texts of the types, without what joins them
text_sum : AbiTypes → ℕ
text_sum nil = 0
text_sum (cons t ts) = length (text t) + text_sum ts

sum_append : (ts us : AbiTypes) → text_sum (append ts us) ≡ text_sum ts + text_sum us
unfolding text_sum append
sum_append nil us = omega arith
sum_append (cons t ts) us = omega (arith, sum_append ts us)

-- with a comma before each
more_length : (ts : AbiTypes) → length (more_text ts) ≡ text_sum ts + count ts
unfolding text_sum count text
more_length nil = refl
more_length (cons t ts) = omega (arith, length-append (text t) (more_text ts), more_length ts)

-- with a comma between two
list_length : (ts : AbiTypes) → 1 ≤ count ts → length (list_text ts) + 1 ≡ text_sum ts + count ts
unfolding text_sum count text
list_length nil h = absurd (omega arith)
list_length (cons t ts) h = omega (arith, length-append (text t) (more_text ts), more_length ts)

-- a type's text is as long as its first code says, and its parts
whole_length : (t : AbiType) → well_formed t ≡ true → length (text t) ≡ own (root t) + text_sum (parts t)
unfolding text own root parts text_sum well_formed
whole_length (elementary e) h = simp (name_kind (code_of e) (code_is_name e h), of_code_lem e h) (omega arith)
whole_length (array t) h = simp array_kind (omega (arith, length-append (text t) (ascii "[]")))
whole_length (tuple ts) h =
    simp (tuple_kind (count ts) (tuple_count ts h))
    (let n = tuple_count ts h in
    omega (arith, length-append (list_text ts) (ascii ")"), list_length ts (omega arith)))

-- types that have no codes are none
no_codes : (us : AbiTypes) → Spells us [] → (text_sum us ≡ 0) × (count us ≡ 0)
unfolding text_sum count
no_codes nil s = (refl, refl)
no_codes (cons u us) s = absurd (omega (arith, count_codes (cons u us), ap length s.spelt))

-- types that have codes are some
some_types : (cs : List ℕ) → (length cs ≡ 0 → ⊥) → (ts : AbiTypes) → Spells ts cs → 1 ≤ count ts
unfolding count codes
some_types cs f nil s = absurd (f (sym (ap length s.spelt)))
some_types cs f (cons t ts) s = omega arith

-- what is left of the types ts when w types are wanted and l bytes are counted, each entry with a comma before it
record Left (w l : ℕ) (ts : AbiTypes) (cs : List ℕ) : Type 0 where
  us : AbiTypes
  spells : Spells us cs
  enough : w ≤ count us
  sum : length (more_text ts) ≡ l + text_sum us + (count us - w)

-- what the count from the left holds after i codes
pub record Counting (cs : List ℕ) (w l i : ℕ) : Type 0 where
  pub turns : i ≤ length cs
  pub few : w ≤ i * 65536
  pub short : l ≤ i * 65538
  back : Wanted w (drop i cs) → Wanted 0 cs
  left : (ts : AbiTypes) → Spells ts cs → Left w l ts (drop i cs)

pub counting_none : (cs : List ℕ) → Counting cs 0 0 0
counting_none cs = record {
  turns = omega arith;
  few = omega arith;
  short = omega arith;
  back = λ w. w;
  left = λ ts s. record { us = ts; spells = s; enough = omega arith; sum = omega (arith, more_length ts) };
}

-- one code read: the texts left are shorter by what it adds
step_sum : (c k : ℕ) (cs : List ℕ) (ts us : AbiTypes) → Step c k cs ts us → text_sum ts ≡ own c + text_sum us
unfolding text_sum
step_sum c k cs ts us s =
    let first-is : length (text s.first) ≡ own c + text_sum (parts s.first) =
    rw s.code at (whole_length s.first s.formed) in
    let us-is : text_sum us ≡ text_sum (parts s.first) + text_sum s.rest =
    ap text_sum s.after ∙ sum_append (parts s.first) s.rest in
    let ts-is : text_sum ts ≡ length (text s.first) + text_sum s.rest = ap text_sum s.before in
    omega arith

module _ (cs : List ℕ) (w l i c : ℕ) (more : i < length cs) (ec : c ≡ get_or cs i 0) (so_far : Counting cs w l i) where
  here : drop i cs ≡ c ∷ drop (i + 1) cs
  here = rw (add-one, ec) (drop-cons cs i 0 more)

  pub counting_unknown : (u : UnknownCode) → kind_of c ≡ Err u → (ts : AbiTypes) → Spells ts cs → ⊥
  counting_unknown u e ts s =
      let x = so_far.left ts s in
      wanted_unknown c w (drop (i + 1) cs) u e
      record { types = x.us; spells = rw here at x.spells; enough = x.enough }

  module _ (k : ℕ) (follows : Follows c k) (few : k ≤ 65535) (short : own c ≤ 65536) where
    left_more : (ts : AbiTypes) → Spells ts cs → Left (w - 1 + k) (l + comma_before w + own c) ts (drop (i + 1) cs)
    left_more ts s =
        let x = so_far.left ts s in
        let (us, st) = after c k (drop (i + 1) cs) follows x.us (rw here at x.spells) in
        let e = step_sum c k (drop (i + 1) cs) x.us us st in
        record { us = us; spells = st.spelt_after; enough = omega arith; sum = go x us st e (ℕ_discrete w 0) }
      where
        go : (x : Left w l ts (drop i cs)) (us : AbiTypes) → Step c k (drop (i + 1) cs) x.us us
            → text_sum x.us ≡ own c + text_sum us → Dec (w ≡ 0)
            → length (more_text ts) ≡ l + comma_before w + own c + text_sum us + (count us - (w - 1 + k))
        go x us st e (yes z) = omega (arith, comma_first w z, st.counts, st.some, x.enough, x.sum)
        go x us st e (no f) = omega (arith, comma_none w f, st.counts, st.some, x.enough, x.sum)

    comma_small : comma_before w ≤ 1
    comma_small = go (ℕ_discrete w 0)
      where
        go : Dec (w ≡ 0) → comma_before w ≤ 1
        go (yes z) = omega (arith, comma_first w z)
        go (no f) = omega (arith, comma_none w f)

    pub counting_more : Counting cs (w - 1 + k) (l + comma_before w + own c) (i + 1)
    counting_more = record {
      turns = omega arith;
      few = omega (arith, so_far.few);
      short = omega (arith, so_far.short, comma_small);
      back = λ x. so_far.back (rw here (step_wanted c k (drop (i + 1) cs) follows w x));
      left = left_more;
    }

module _ (cs : List ℕ) (w l i : ℕ) (done : length cs ≤ i) (so_far : Counting cs w l i) where
  at_end : drop i cs ≡ []
  at_end = drop_of_length-le cs done

  -- types are still wanted
  pub counting_short : (w ≡ 0 → ⊥) → (ts : AbiTypes) → Spells ts cs → ⊥
  counting_short f ts s =
      let x = so_far.left ts s in
      let n = no_codes x.us (rw at_end at x.spells) in
      f (omega (arith, x.enough, n.1))

  -- none are: the codes are those of types, and the bytes are counted
  module _ (z : w ≡ 0) where
    found : Wanted 0 cs
    found = so_far.back (rw (at_end, z) none_wanted)

    counted : length (more_text found.types) ≡ l
    counted =
        let x = so_far.left found.types found.spells in
        let n = no_codes x.us (rw at_end at x.spells) in
        omega (arith, x.sum, n.0, n.1)

    counting_empty : length cs ≡ 0 → (ts : AbiTypes) × Spells ts cs × (0 ≡ length (list_text ts))
    unfolding text count
    counting_empty e = go found.types found.spells
      where
        go : (ts : AbiTypes) → Spells ts cs → (ts : AbiTypes) × Spells ts cs × (0 ≡ length (list_text ts))
        go nil s = (nil, s, refl)
        go (cons t ts) s = absurd (omega (arith, count_codes (cons t ts), ap length s.spelt))

    counting_whole : (length cs ≡ 0 → ⊥) → (ts : AbiTypes) × Spells ts cs × (l - 1 ≡ length (list_text ts))
    counting_whole f =
        let ts = found.types in
        let n = some_types cs f ts found.spells in
        (ts, found.spells, omega (arith, counted, more_length ts, list_length ts n))

    -- the comma before the first entry is taken off
    pub counting_done : (ts : AbiTypes) × Spells ts cs × (l - 1 ≡ length (list_text ts))
    counting_done = go (ℕ_discrete (length cs) 0)
      where
        go : Dec (length cs ≡ 0) → (ts : AbiTypes) × Spells ts cs × (l - 1 ≡ length (list_text ts))
        go (yes e) = let w = counting_empty e in (w.0, w.1, omega (arith, w.2, so_far.short, so_far.turns))
        go (no f) = counting_whole f
