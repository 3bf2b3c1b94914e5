-- The loop of `write_codes`: what is left to write, written, is what there was to write.
use mathlib.Core.Path.{◌≡◌, sym, ap, ◌∙◌}
use mathlib.Core.Bool.{Bool}
use mathlib.Core.List.{List, [], ◌∷◌, ◌++◌}
use Prim.Native.Nat.{ℕ, ◌+◌, ◌≤◌, ◌<◌}
use native.Mathlib.Numerals.{add-one}
use native.Mathlib.Decide.{dec_lt}
use native.Mathlib.Omega.{arith}
use borrow.Author.Tests.{eq-eqb, ne_eqb}
use lib.Dec.{eqb}
use lib.ListN.{length, get_or, drop, length-append, drop_of_length-le}
use lib.Seq.{sets, drop-cons}
use Rattle.types.specs.Kind.{kind_of}
use Rattle.spell.specs.Stored.{StoredAt}
use Rattle.spell.proofs.Stores.{sets_append}
use Rattle.text.specs.Machine.{piece_by, open_by, none_left, emit, stack_of}

-- the last code is the one behind which none is left
last_is : (cs : List ℕ) (i : ℕ) → i < length cs → eqb (i + 1) (length cs) ≡ none_left (drop (i + 1) cs)
last_is cs i h = go (dec_lt (i + 1) (length cs))
  where
    go : Dec (i + 1 < length cs) → eqb (i + 1) (length cs) ≡ none_left (drop (i + 1) cs)
    go (yes l) = ne_eqb (i + 1) (length cs) (λ e. absurd (omega arith)) ∙ sym (ap none_left (drop-cons cs (i + 1) 0 l))
    go (no l) =
        eq-eqb (i + 1) (length cs) (omega arith)
        ∙ sym (ap none_left (drop_of_length-le cs (let m : length cs ≤ i + 1 = omega arith in m)))

-- what is left to write behind i codes, written, is what there was to write
pub record Writing (cs out₀ : List ℕ) (to₀ : ℕ) (st out : List ℕ) (to i : ℕ) : Type 0 where
  pub same : sets out to (emit st (drop i cs)) ≡ sets out₀ to₀ (emit [] cs)
  pub end : to + length (emit st (drop i cs)) ≡ to₀ + length (emit [] cs)

pub writing_none : (cs out : List ℕ) (to : ℕ) (held : List ℕ) → held ≡ [] → Writing cs out to (stack_of held) out to 0
unfolding stack_of
writing_none cs out to held e =
    let none : stack_of held ≡ [] = ap stack_of e in
    record {
      same = ap (λ (st : List ℕ). sets out to (emit st cs)) none;
      end = ap (λ (st : List ℕ). to + length (emit st cs)) none;
    }

module _ (cs out₀ : List ℕ) (to₀ : ℕ) (st out : List ℕ) (to i : ℕ) (so_far : Writing cs out₀ to₀ st out to i) where
  pub writing_end : length cs ≤ i → StoredAt (emit [] cs) out₀ to₀ to out
  unfolding emit
  writing_end h =
      let none : emit st (drop i cs) ≡ [] = ap (emit st) (drop_of_length-le cs h) in
      (ap (sets out to) (sym none) ∙ so_far.same, omega (arith, so_far.end, ap length none))

  module _ (more : i < length cs) (c : ℕ) (last : Bool) (ec : c ≡ get_or cs i 0)
      (el : last ≡ eqb (i + 1) (length cs)) where
    abbrev piece : List ℕ
    piece = piece_by (kind_of c) st c last

    abbrev after : List ℕ
    after = emit (open_by (kind_of c) st) (drop (i + 1) cs)

    here : emit st (drop i cs) ≡ piece ++ after
    unfolding emit
    here =
        ap (emit st) (drop-cons cs i 0 more ∙ (λ j. sym ec j ∷ drop (sym (add-one i) j) cs))
        ∙ ap (λ (b : Bool). piece_by (kind_of c) st c b ++ after) (sym (el ∙ last_is cs i more))

    whole : to + length piece + length after ≡ to₀ + length (emit [] cs)
    whole = omega (arith, so_far.end, ap length here, length-append piece after)

    pub writing_room : to₀ + length (emit [] cs) ≤ length out₀ → length out ≡ length out₀ → to + length piece ≤ length out
    writing_room h size = omega (arith, whole)

    pub writing_more : (out' : List ℕ) (to' : ℕ) → StoredAt piece out to to' out' → (st' : List ℕ)
        → st' ≡ open_by (kind_of c) st → Writing cs out₀ to₀ st' out' to' (i + 1)
    writing_more out' to' s st' e = record {
      same =
          (λ j. sets (s.0 j) (s.1 j) (emit (e j) (drop (i + 1) cs)))
          ∙ sym (sets_append out to piece after)
          ∙ ap (sets out to) (sym here) ∙ so_far.same;
      end = omega (arith, whole, s.1, ap (λ (l : List ℕ). length (emit l (drop (i + 1) cs))) e);
    }
