-- A list of codes stands for at most one list of types.
use mathlib.Core.Path.{◌≡◌, refl, sym, ◌∙◌}
use mathlib.Core.Bool.{true}
use mathlib.Core.List.{List, [], ◌++◌, append_assoc, head-eq_of_cons-eq, tail-eq_of_cons-eq, nil≢cons}
use Prim.Native.Nat.{ℕ}
use native.Mathlib.Omega.{arith}
use Rattle.types.specs.Tree.{AbiType, AbiTypes, nil, cons, count, well_formed, all_well_formed}
use Rattle.types.specs.Codes.{codes, all_codes, Spells}
use Rattle.types.proofs.Formed.{head_formed, tail_formed}
use Rattle.types.specs.Root.{root, parts}
use Rattle.types.proofs.Roots.{codes_root, codes_cons, every_type, every_list, follows_only, root_follows}
use Rattle.types.proofs.Roots.{parts_formed, same_type}

-- no other type has the same codes in front
abbrev TypeOnly : AbiType → Type 0
TypeOnly t =
    (u : AbiType) (xs ys : List ℕ) → well_formed t ≡ true → well_formed u ≡ true → codes t ++ xs ≡ codes u ++ ys
    → (t ≡ u) × (xs ≡ ys)

-- no other list of as many types has
abbrev ListOnly : AbiTypes → Type 0
ListOnly ts =
    (us : AbiTypes) (xs ys : List ℕ) → count ts ≡ count us → all_well_formed ts ≡ true → all_well_formed us ≡ true
    → all_codes ts ++ xs ≡ all_codes us ++ ys → (ts ≡ us) × (xs ≡ ys)

none_only : ListOnly nil
unfolding codes count
none_only nil xs ys n h i e = (refl, e)
none_only (cons u us) xs ys n h i e = absurd (omega arith)

more_only : (t : AbiType) (ts : AbiTypes) → TypeOnly t → ListOnly ts → ListOnly (cons t ts)
unfolding codes count
more_only t ts p q nil xs ys n h i e = absurd (omega arith)
more_only t ts p q (cons u us) xs ys n h i e =
    let f = simp append_assoc at e in
    let a = p u (all_codes ts ++ xs) (all_codes us ++ ys) (head_formed t ts h) (head_formed u us i) f in
    let b = q us xs ys (omega arith) (tail_formed t ts h) (tail_formed u us i) a.1 in
    (cc, b.1)

whole_only : (t : AbiType) → ListOnly (parts t) → TypeOnly t
whole_only t q u xs ys h i e =
    let f = rw (codes_root t, codes_root u) at e in
    let r = head-eq_of_cons-eq f in
    let n = follows_only (root u) (count (parts t)) (count (parts u)) (rw r at (root_follows t h)) (root_follows u i) in
    let b = q (parts u) xs ys n (parts_formed t h) (parts_formed u i) (tail-eq_of_cons-eq f) in
    (same_type t u h i r b.0, b.1)

-- codes begin with those of at most one type
pub codes_prefix : (t : AbiType) → TypeOnly t
codes_prefix = every_type TypeOnly ListOnly none_only more_only whole_only

-- codes begin with those of at most one list of so many types
pub all_prefix : (ts : AbiTypes) → ListOnly ts
all_prefix = every_list TypeOnly ListOnly none_only more_only whole_only

-- a type before others has a code
cons_some : (t : AbiType) (ts : AbiTypes) → [] ≡ all_codes (cons t ts) → ⊥
cons_some t ts e = nil≢cons (e ∙ codes_cons t ts)

-- two lists of well-formed types with the same codes are the same
pub same_codes : (ts us : AbiTypes) → all_well_formed ts ≡ true → all_well_formed us ≡ true → all_codes ts ≡ all_codes us
    → ts ≡ us
unfolding codes
same_codes nil nil h i e = refl
same_codes nil (cons u us) h i e = absurd (cons_some u us e)
same_codes (cons t ts) nil h i e = absurd (cons_some t ts (sym e))
same_codes (cons t ts) (cons u us) h i e =
    let a = codes_prefix t u (all_codes ts) (all_codes us) (head_formed t ts h) (head_formed u us i) e in
    let b = same_codes ts us (tail_formed t ts h) (tail_formed u us i) a.1 in
    cc

-- a list of numbers spells at most one list of types
pub only_types : (ts us : AbiTypes) (cs : List ℕ) → Spells ts cs → Spells us cs → ts ≡ us
only_types ts us cs s r = same_codes ts us s.formed r.formed (s.spelt ∙ sym r.spelt)
