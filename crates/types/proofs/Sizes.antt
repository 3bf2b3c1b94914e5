-- How many codes a type has, beside the number of its parts and its levels.
use mathlib.Core.Path.{◌≡◌, refl, ap}
use Prim.Native.Nat.{ℕ, suc, ◌+◌, ◌≤◌, max}
use native.Mathlib.Omega.{arith}
use lib.ListN.{length, length-append}
use Rattle.types.specs.Tree.{AbiType, AbiTypes, elementary, array, tuple, nil, cons, count, append, levels}
use Rattle.types.specs.Tree.{most_levels}
use Rattle.types.specs.Codes.{codes, all_codes}
use Rattle.types.specs.Root.{parts}
use Rattle.types.proofs.Roots.{codes_root, every_type, every_list}

-- a type has one code more than its parts together
pub codes_length : (t : AbiType) → length (codes t) ≡ suc (length (all_codes (parts t)))
codes_length t = ap length (codes_root t)

-- an array has one code more than its element
pub array_length : (t : AbiType) → length (codes (array t)) ≡ suc (length (codes t))
unfolding codes
array_length t = refl

-- a tuple has one code more than its parts together
pub tuple_length : (ts : AbiTypes) → length (codes (tuple ts)) ≡ suc (length (all_codes ts))
unfolding codes
tuple_length ts = refl

-- the codes of a list are those of the first type and of the others
pub cons_length : (t : AbiType) (ts : AbiTypes)
    → length (all_codes (cons t ts)) ≡ length (codes t) + length (all_codes ts)
unfolding codes
cons_length t ts = length-append (codes t) (all_codes ts)

-- a type has a code
pub codes_some : (t : AbiType) → 1 ≤ length (codes t)
codes_some t = omega (arith, codes_length t)

-- a list has a code a type or more
pub count_codes : (ts : AbiTypes) → count ts ≤ length (all_codes ts)
unfolding count
count_codes nil = omega arith
count_codes (cons t ts) = omega (arith, count_codes ts, codes_some t, cons_length t ts)

-- a type has one level more than the part that has the most
pub levels_root : (t : AbiType) → levels t ≡ suc (most_levels (parts t))
unfolding levels parts
levels_root (elementary e) = refl
levels_root (array t) = omega arith
levels_root (tuple ts) = refl

-- a type has a level
pub levels_some : (t : AbiType) → 1 ≤ levels t
levels_some t = omega (arith, levels_root t)

abbrev LowType : AbiType → Type 0
LowType t = levels t ≤ length (codes t)

abbrev LowList : AbiTypes → Type 0
LowList ts = most_levels ts ≤ length (all_codes ts)

none_low : LowList nil
unfolding levels
none_low = omega arith

more_low : (t : AbiType) (ts : AbiTypes) → LowType t → LowList ts → LowList (cons t ts)
unfolding levels
more_low t ts p q = omega (arith, cons_length t ts)

whole_low : (t : AbiType) → LowList (parts t) → LowType t
whole_low t q = omega (arith, levels_root t, codes_length t)

-- a type has no more levels than codes
pub levels_codes : (t : AbiType) → levels t ≤ length (codes t)
levels_codes = every_type LowType LowList none_low more_low whole_low

-- nor has any type of a list more levels than the list has codes
pub most_levels_codes : (ts : AbiTypes) → most_levels ts ≤ length (all_codes ts)
most_levels_codes = every_list LowType LowList none_low more_low whole_low

-- lists joined have the levels of the one that has more
pub most_append : (ts us : AbiTypes) → most_levels (append ts us) ≡ max (most_levels ts) (most_levels us)
unfolding levels append
most_append nil us = omega arith
most_append (cons t ts) us = omega (arith, most_append ts us)

-- no entry has more levels than the list
pub entry_levels : (us : AbiTypes) (t : AbiType) (vs : AbiTypes) → levels t ≤ most_levels (append us (cons t vs))
unfolding levels
entry_levels us t vs = omega (arith, most_append us (cons t vs))

-- and the list has n at most, if each entry has
pub most_levels_lem : (n : ℕ) (ts : AbiTypes)
    → ((us : AbiTypes) (t : AbiType) (vs : AbiTypes) → ts ≡ append us (cons t vs) → levels t ≤ n) → most_levels ts ≤ n
unfolding levels append
most_levels_lem n nil h = omega arith
most_levels_lem n (cons t ts) h =
    let rest = most_levels_lem n ts (λ us u vs e. h (cons t us) u vs (ap (cons t) e)) in
    let first = h nil t ts refl in
    omega arith
