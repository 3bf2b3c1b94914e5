-- A type is a first code and the types that follow it. What the first code says of their number.
use mathlib.Core.Path.{◌≡◌, refl, sym, ap, ◌∙◌}
use mathlib.Core.Bool.{true, true≢false}
use mathlib.Core.List.{List, ◌∷◌, ◌++◌, append-nil}
use Prim.Native.Nat.{ℕ, ◌+◌, ◌≤◌}
use native.Mathlib.Omega.{arith}
use Rattle.names.specs.Elementary.{Elementary, is_name, code_of, of_code}
use Rattle.names.proofs.Codes.{code_is_name, of_code_lem, name_small, name_not_array, name_is_code, name_has_width}
use Rattle.types.specs.Tree.{AbiType, AbiTypes, elementary, array, tuple, nil, cons, count, well_formed}
use Rattle.types.specs.Tree.{all_well_formed}
use Rattle.types.specs.Codes.{codes, all_codes}
use Rattle.types.specs.Root.{root, parts}
use Rattle.types.specs.Kind.{kind_of}
use Rattle.std.specs.Prelude.{Ok, Err}
use Rattle.types.specs.declared.kind.CodeKind.TheVariants.{Name, Array, Tuple}
use Rattle.types.specs.declared.kind.UnknownCode.{UnknownCode}
use Rattle.types.proofs.KindLaws.{name_kind, array_kind, tuple_kind, kind_name, kind_array_lem, kind_tuple}
use Rattle.types.proofs.KindLaws.{kind_unknown}
use Rattle.types.proofs.Formed.{head_formed, cons_formed, tuple_count, tuple_parts, tuple_formed}

-- the codes of a type are its first code and the codes of its parts
pub codes_root : (t : AbiType) → codes t ≡ root t ∷ all_codes (parts t)
unfolding codes root parts
codes_root (elementary e) = refl
codes_root (array t) = rw append-nil
codes_root (tuple ts) = refl

-- the codes of a list are the first code of its first type, and the codes of that type's parts and of the others
pub codes_cons : (t : AbiType) (ts : AbiTypes) → all_codes (cons t ts) ≡ root t ∷ (all_codes (parts t) ++ all_codes ts)
unfolding codes
codes_cons t ts = ap (λ (l : List ℕ). l ++ all_codes ts) (codes_root t)

-- An induction: what holds of no types, of one type more, and of a type if it holds of its parts, holds of every type
-- and of every list.
module _ (P : AbiType → Type 0) (Q : AbiTypes → Type 0) (none : Q nil)
    (more : (t : AbiType) (ts : AbiTypes) → P t → Q ts → Q (cons t ts))
    (whole : (t : AbiType) → Q (parts t) → P t) where
  mutual
    unfolding parts

    pub every_type : (t : AbiType) → P t
    every_type (elementary e) = whole (elementary e) none
    every_type (array t) = whole (array t) (more t nil (every_type t) none)
    every_type (tuple ts) = whole (tuple ts) (every_list ts)

    pub every_list : (ts : AbiTypes) → Q ts
    every_list nil = none
    every_list (cons t ts) = more t ts (every_type t) (every_list ts)

-- the first code of a well-formed type with no type inside is of the kind "name"
pub root_name : (e : Elementary) → well_formed (elementary e) ≡ true → kind_of (root (elementary e)) ≡ Ok Name
unfolding root well_formed
root_name e h = name_kind (code_of e) (code_is_name e h)

-- that of an array is of the kind "array"
pub root_array : (t : AbiType) → kind_of (root (array t)) ≡ Ok Array
unfolding root
root_array t = array_kind

-- that of a well-formed tuple is of the kind "tuple", with the number of its parts
pub root_tuple : (ts : AbiTypes) → well_formed (tuple ts) ≡ true → kind_of (root (tuple ts)) ≡ Ok (Tuple (count ts))
unfolding root
root_tuple ts h = tuple_kind (count ts) (tuple_count ts h)

-- c is a code that k types follow
pub data Follows (c k : ℕ) : Type 0 where
  after_name : is_name c ≡ true → k ≡ 0 → Follows c k
  after_array : c ≡ 5 → k ≡ 1 → Follows c k
  after_tuple : c ≡ 16384 + k → 2 ≤ k → Follows c k

-- a code says how many types follow it
pub follows_only : (c j k : ℕ) → Follows c j → Follows c k → j ≡ k
follows_only c j k (after_name h p) (after_name i q) = omega arith
follows_only c j k (after_name h p) (after_array e q) = absurd (name_not_array c h e)
follows_only c j k (after_name h p) (after_tuple e q) = absurd (omega (arith, name_small c h))
follows_only c j k (after_array e p) (after_name h q) = absurd (name_not_array c h e)
follows_only c j k (after_array e p) (after_array f q) = omega arith
follows_only c j k (after_array e p) (after_tuple f q) = absurd (omega arith)
follows_only c j k (after_tuple e p) (after_name h q) = absurd (omega (arith, name_small c h))
follows_only c j k (after_tuple e p) (after_array f q) = absurd (omega arith)
follows_only c j k (after_tuple e p) (after_tuple f q) = omega arith

module _ (c : ℕ) where
  -- no type follows a number of the kind "name"
  pub name_follows : kind_of c ≡ Ok Name → Follows c 0
  name_follows e = after_name (kind_name c e) refl

  -- one follows a number of the kind "array"
  pub array_follows : kind_of c ≡ Ok Array → Follows c 1
  array_follows e = after_array (kind_array_lem c e) refl

  -- n follow a number of the kind "tuple of n"
  pub tuple_follows : (n : ℕ) → kind_of c ≡ Ok (Tuple n) → Follows c n
  tuple_follows n e = let s = kind_tuple c n e in after_tuple s.0 s.1

  -- a number of no kind is no code that types follow
  pub unknown_follows : (e : UnknownCode) (k : ℕ) → kind_of c ≡ Err e → Follows c k → ⊥
  unknown_follows e k is (after_name h p) = let s = kind_unknown c e is in true≢false (sym h ∙ s.2)
  unknown_follows e k is (after_array a p) = (kind_unknown c e is).0 a
  unknown_follows e k is (after_tuple t p) = let s = kind_unknown c e is in omega arith

-- as many types follow the first code as the type has parts
pub root_follows : (t : AbiType) → well_formed t ≡ true → Follows (root t) (count (parts t))
unfolding root parts count well_formed
root_follows (elementary e) h = after_name (code_is_name e h) refl
root_follows (array t) h = after_array refl refl
root_follows (tuple ts) h = after_tuple refl (tuple_count ts h)

-- the parts of a well-formed type are well formed
pub parts_formed : (t : AbiType) → well_formed t ≡ true → all_well_formed (parts t) ≡ true
unfolding parts well_formed
parts_formed (elementary e) h = refl
parts_formed (array t) h = cons_formed t nil h refl
parts_formed (tuple ts) h = tuple_parts ts h

-- a type is known by its first code and its parts
pub same_type : (t u : AbiType) → well_formed t ≡ true → well_formed u ≡ true → root t ≡ root u → parts t ≡ parts u
    → t ≡ u
unfolding root parts count well_formed
same_type (elementary e) (elementary f) h i r p = ap elementary (sym (of_code_lem e h) ∙ ap of_code r ∙ of_code_lem f i)
same_type (elementary e) (array u) h i r p = absurd (omega (arith, ap count p))
same_type (elementary e) (tuple us) h i r p = absurd (omega (arith, ap count p, tuple_count us i))
same_type (array t) (elementary f) h i r p = absurd (omega (arith, ap count p))
same_type (array t) (array u) h i r p = cc
same_type (array t) (tuple us) h i r p = absurd (omega (arith, ap count p, tuple_count us i))
same_type (tuple ts) (elementary f) h i r p = absurd (omega (arith, ap count p, tuple_count ts h))
same_type (tuple ts) (array u) h i r p = absurd (omega (arith, ap count p, tuple_count ts h))
same_type (tuple ts) (tuple us) h i r p = ap tuple p

-- the type with this first code and these parts
pub record Whole (c : ℕ) (us : AbiTypes) : Type 0 where
  pub type : AbiType
  pub formed : well_formed type ≡ true
  pub first : root type ≡ c
  pub others : parts type ≡ us

-- there is one where as many parts are given as follow the code
pub whole : (c k : ℕ) (us : AbiTypes) → Follows c k → count us ≡ k → all_well_formed us ≡ true → Whole c us
unfolding root parts count well_formed
whole c k nil (after_name h p) n f =
    record { type = elementary (of_code c); formed = name_has_width c h; first = name_is_code c h; others = refl }
whole c k (cons u us) (after_name h p) n f = absurd (omega arith)
whole c k nil (after_array e p) n f = absurd (omega arith)
whole c k (cons u nil) (after_array e p) n f =
    record { type = array u; formed = head_formed u nil f; first = sym e; others = refl }
whole c k (cons u (cons v us)) (after_array e p) n f = absurd (omega arith)
whole c k us (after_tuple e l) n f =
    record { type = tuple us; formed = tuple_formed us (omega arith) f; first = omega arith; others = refl }
