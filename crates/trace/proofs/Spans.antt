-- Where a type ends: the reader that counts the types still wanted stops behind its last code.
use mathlib.Core.Path.{◌≡◌, refl, ap, ◌∙◌}
use mathlib.Core.Bool.{true}
use mathlib.Core.List.{List, [], ◌∷◌, ◌++◌, append_assoc}
use Prim.Native.Nat.{ℕ, suc, ◌+◌, ◌-◌, ◌*◌, ◌≤◌, ◌<◌}
use native.Mathlib.Numerals.{add-one}
use native.Mathlib.Omega.{arith}
use borrow.Author.Tests.{ne_eqb}
use lib.ListN.{length, get_or, take, drop, length-append, drop_of_length-le}
use lib.Seq.{drop-cons, take-append_seam, drop-append_seam}
use Rattle.types.specs.Tree.{AbiType, AbiTypes, elementary, array, tuple, nil, cons, count, well_formed, all_well_formed}
use Rattle.types.specs.Codes.{codes, all_codes}
use Rattle.types.specs.Kind.{kind_of}
use Rattle.types.specs.Root.{root, parts}
use Rattle.types.proofs.Formed.{head_formed, tail_formed}
use Rattle.types.proofs.Roots.{codes_root, every_type, root_name, root_array, root_tuple, parts_formed}
use Rattle.trace.specs.Entry.{follow, span}

-- no types have no codes
pub span_none : (cs : List ℕ) → span 0 cs ≡ 0
unfolding span
span_none [] = refl
span_none (c ∷ cs) = refl

-- a code more
pub span_more : (w c : ℕ) (cs : List ℕ) → 0 < w → span w (c ∷ cs) ≡ suc (span (w - 1 + follow (kind_of c)) cs)
unfolding span
span_more w c cs h = simp (ne_eqb w 0 (λ e. absurd (omega arith)))

-- as many types follow the first code as the type has parts
follow_parts : (t : AbiType) → well_formed t ≡ true → follow (kind_of (root t)) ≡ count (parts t)
unfolding parts count
follow_parts (elementary e) h = ap follow (root_name e h)
follow_parts (array t) h = ap follow (root_array t)
follow_parts (tuple ts) h = ap follow (root_tuple ts h)

-- where w types more are wanted behind a type, or behind types in a row
abbrev TypeEnds : AbiType → Type 0
TypeEnds t =
    well_formed t ≡ true → (w : ℕ) (rest : List ℕ) → span (suc w) (codes t ++ rest) ≡ length (codes t) + span w rest

abbrev ListEnds : AbiTypes → Type 0
ListEnds ts = all_well_formed ts ≡ true → (w : ℕ) (rest : List ℕ)
    → span (count ts + w) (all_codes ts ++ rest) ≡ length (all_codes ts) + span w rest

none_ends : ListEnds nil
unfolding codes count
none_ends h w rest = let e : 0 + w ≡ w = omega arith in let f : 0 + span w rest ≡ span w rest = omega arith in rw (e, f)

more_ends : (t : AbiType) (ts : AbiTypes) → TypeEnds t → ListEnds ts → ListEnds (cons t ts)
unfolding codes count
more_ends t ts p q h w rest =
    let e : suc (count ts) + w ≡ suc (count ts + w) = omega arith in
    let a = p (head_formed t ts h) (count ts + w) (all_codes ts ++ rest) in
    let b = q (tail_formed t ts h) w rest in
    rw (e, append_assoc, a, b, length-append) (omega arith)

whole_ends : (t : AbiType) → ListEnds (parts t) → TypeEnds t
whole_ends t q h w rest =
    let b = q (parts_formed t h) w rest in
    let e : suc w - 1 + follow (kind_of (root t)) ≡ count (parts t) + w = omega (arith, follow_parts t h) in
    let a = span_more (suc w) (root t) (all_codes (parts t) ++ rest) (omega arith) in
    ap (λ (l : List ℕ). span (suc w) (l ++ rest)) (codes_root t)
    ∙ a
    ∙ ap (λ (n : ℕ). suc (span n (all_codes (parts t) ++ rest))) e
    ∙ ap suc b
    ∙ (let z : suc (length (all_codes (parts t)) + span w rest) ≡ length (codes t) + span w rest =
    omega (arith, ap length (codes_root t)) in z)

-- a well-formed type ends behind its last code, whatever stands there
pub span_type : (t : AbiType) (rest : List ℕ) → well_formed t ≡ true → span 1 (codes t ++ rest) ≡ length (codes t)
span_type t rest h =
    let e = every_type TypeEnds ListEnds none_ends more_ends whole_ends t h 0 rest in
    e ∙ (let z : length (codes t) + span 0 rest ≡ length (codes t) = omega (arith, span_none rest) in z)

-- so that the codes up to there are the type's, and those behind it the others'
pub entry_codes : (t : AbiType) (rest : List ℕ) → well_formed t ≡ true
    → (take (span 1 (codes t ++ rest)) (codes t ++ rest) ≡ codes t)
    × (drop (span 1 (codes t ++ rest)) (codes t ++ rest) ≡ rest)
entry_codes t rest h = rw (span_type t rest h) (take-append_seam (codes t) rest, drop-append_seam (codes t) rest)

-- the loop: behind i codes w types are wanted
pub record Spanning (cs : List ℕ) (w i : ℕ) : Type 0 where
  pub turns : i ≤ length cs
  pub few : w ≤ 1 + i * 65536
  pub same : i + span w (drop i cs) ≡ span 1 cs

pub spanning_none : (cs : List ℕ) → Spanning cs 1 0
spanning_none cs = record { turns = omega arith; few = omega arith; same = omega arith }

module _ (cs : List ℕ) (w i : ℕ) (so_far : Spanning cs w i) where
  -- no codes are left
  pub spanning_short : length cs ≤ i → i ≡ span 1 cs
  unfolding span
  spanning_short h = omega (arith, so_far.same, ap (span w) (drop_of_length-le cs h))

  -- no types are wanted
  pub spanning_end : w ≤ 0 → i ≡ span 1 cs
  spanning_end h =
      let z : w ≡ 0 = omega arith in
      omega (arith, so_far.same, ap (λ (v : ℕ). span v (drop i cs)) z, span_none (drop i cs))

  pub spanning_more : (k : ℕ) → 0 < w → i < length cs → k ≡ follow (kind_of (get_or cs i 0)) → k < 65536
      → Spanning cs (w - 1 + k) (i + 1)
  spanning_more k h l e s = record {
    turns = omega arith;
    few = omega (arith, so_far.few);
    same =
        let d : drop i cs ≡ get_or cs i 0 ∷ drop (i + 1) cs = rw add-one (drop-cons cs i 0 l) in
        let m = ap (span w) d ∙ span_more w (get_or cs i 0) (drop (i + 1) cs) h in
        let f = ap (λ (j : ℕ). span (w - 1 + j) (drop (i + 1) cs)) e in
        omega (arith, so_far.same, m, f);
  }
