-- Two lists of types one after the other: their codes, their number, whether they are well formed; and a list taken
-- apart.
use mathlib.Core.Path.{◌≡◌, refl, sym, ap, ◌∙◌}
use mathlib.Core.Bool.{true, ◌&&◌, and-eq-true_iff, and_assoc}
use mathlib.Core.List.{◌++◌, append_assoc as list-assoc}
use Prim.Native.Nat.{ℕ, zero, suc, ◌+◌, ◌≤◌}
use native.Mathlib.Omega.{arith}
use Rattle.types.specs.Tree.{AbiTypes, nil, cons, count, append, well_formed, all_well_formed}
use Rattle.types.specs.Codes.{codes, all_codes}

-- the codes of the one list, then those of the other
pub codes_append : (ts us : AbiTypes) → all_codes (append ts us) ≡ all_codes ts ++ all_codes us
unfolding codes append
codes_append nil us = refl
codes_append (cons t ts) us = rw (codes_append ts us, list-assoc)

-- the numbers of types add up
pub count_append : (ts us : AbiTypes) → count (append ts us) ≡ count ts + count us
unfolding count append
count_append nil us = omega arith
count_append (cons t ts) us = omega (arith, count_append ts us)

-- the whole is well formed if both lists are
pub formed_append : (ts us : AbiTypes) → all_well_formed (append ts us) ≡ (all_well_formed ts && all_well_formed us)
unfolding well_formed append
formed_append nil us = refl
formed_append (cons t ts) us = rw (formed_append ts us, and_assoc)

module _ (ts us : AbiTypes) where
  -- then the first list is
  pub formed_left : all_well_formed (append ts us) ≡ true → all_well_formed ts ≡ true
  formed_left h = ((and-eq-true_iff (all_well_formed ts) (all_well_formed us)).0 (sym (formed_append ts us) ∙ h)).0

  -- and the second
  pub formed_right : all_well_formed (append ts us) ≡ true → all_well_formed us ≡ true
  formed_right h = ((and-eq-true_iff (all_well_formed ts) (all_well_formed us)).0 (sym (formed_append ts us) ∙ h)).1

  -- and the other way round
  pub formed_both : all_well_formed ts ≡ true → all_well_formed us ≡ true → all_well_formed (append ts us) ≡ true
  formed_both p q = formed_append ts us ∙ (and-eq-true_iff (all_well_formed ts) (all_well_formed us)).1 (p, q)

-- no types after a list change nothing
pub append_nil : (ts : AbiTypes) → append ts nil ≡ ts
unfolding append
append_nil nil = refl
append_nil (cons t ts) = ap (cons t) (append_nil ts)

-- three lists may be put together in either order
pub append_assoc : (ts us vs : AbiTypes) → append (append ts us) vs ≡ append ts (append us vs)
unfolding append
append_assoc nil us vs = refl
append_assoc (cons t ts) us vs = ap (cons t) (append_assoc ts us vs)

-- a list is its first k types and the others
pub split : (k : ℕ) (ts : AbiTypes) → k ≤ count ts
    → (us : AbiTypes) × (vs : AbiTypes) × (ts ≡ append us vs) × (count us ≡ k)
unfolding append count
split zero ts h = (nil, ts, refl, refl)
split (suc k) nil h = absurd (omega arith)
split (suc k) (cons t ts) h =
    let s = split k ts (omega arith) in
    (cons t s.0, s.1, ap (cons t) s.2, ap suc s.3)
