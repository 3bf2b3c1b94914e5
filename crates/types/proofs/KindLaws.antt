-- What `kind_of` says, so that it need not be opened.
use mathlib.Core.Path.{◌≡◌, refl, sym, subst}
use mathlib.Core.Bool.{Bool, true, false, cond}
use Prim.Native.Nat.{ℕ, ◌+◌, ◌-◌, ◌≤◌, ◌<◌}
use native.Mathlib.Decide.{ℕ_discrete, dec_lt}
use native.Mathlib.Omega.{arith}
use borrow.Author.Tests.{eq-eqb, ne_eqb, le-leb, lt-leb}
use Rattle.std.specs.Prelude.{Ok, Err}
use Rattle.names.specs.Elementary.{is_name}
use Rattle.names.proofs.Codes.{name_small, name_not_array}
use Rattle.types.specs.Kind.{Kind, kind_of}
use Rattle.types.specs.declared.kind.CodeKind.TheVariants.{Name, Array, Tuple}
use Rattle.types.specs.declared.kind.UnknownCode.{UnknownCode}

-- the four answers of `kind_of`, by the tests in their order
module _ (c : ℕ) where
  pub is_array : c ≡ 5 → Ok Array ≡ kind_of c
  unfolding kind_of
  is_array e = simp (eq-eqb c 5 e)

  pub is_tuple : 16386 ≤ c → Ok (Tuple (c - 16384)) ≡ kind_of c
  unfolding kind_of
  is_tuple h = simp (ne_eqb c 5 (omega arith), le-leb 16386 c h)

  by_name : (c ≡ 5 → ⊥) → c < 16386 → kind_of c ≡ cond (is_name c) (Ok Name) (Err (record { 0 = c }))
  unfolding kind_of
  by_name n h = simp (ne_eqb c 5 n, lt-leb 16386 c h)

  pub is_name_lem : (c ≡ 5 → ⊥) → c < 16386 → (r : Bool) → r ≡ is_name c → r ≡ true → Ok Name ≡ kind_of c
  is_name_lem n h r e t = rw (by_name n h, ← e, t)

  pub is_unknown : (c ≡ 5 → ⊥) → c < 16386 → (r : Bool) → r ≡ is_name c → r ≡ false
      → Err (record { 0 = c }) ≡ kind_of c
  is_unknown n h r e t = rw (by_name n h, ← e, t)

-- what a number of a kind is
abbrev pub Says : ℕ → Kind → Type 0
Says c (Ok Name) = is_name c ≡ true
Says c (Ok Array) = c ≡ 5
Says c (Ok (Tuple n)) = (c ≡ 16384 + n) × (2 ≤ n)
Says c (Err e) = (c ≡ 5 → ⊥) × (c < 16386) × (is_name c ≡ false)

-- each number is what its kind says
pub kind_says : (c : ℕ) → Says c (kind_of c)
kind_says c = go (ℕ_discrete c 5) (dec_lt c 16386) (is_name c) refl
  where
    go : Dec (c ≡ 5) → Dec (c < 16386) → (b : Bool) → b ≡ is_name c → Says c (kind_of c)
    go (yes p) q b e = rw (← is_array c p) p
    go (no p) (no q) b e = rw (← is_tuple c (omega arith)) (omega arith)
    go (no p) (yes q) true e = rw (← is_name_lem c p q true e refl) (sym e)
    go (no p) (yes q) false e = rw (← is_unknown c p q false e refl) (p, q, sym e)

module _ (c : ℕ) where
  -- a number of the kind "name" is a name's code
  pub kind_name : kind_of c ≡ Ok Name → is_name c ≡ true
  kind_name e = subst (Says c) e (kind_says c)

  -- and a name's code is of that kind
  pub name_kind : is_name c ≡ true → kind_of c ≡ Ok Name
  name_kind h = let s = name_small c h in sym (is_name_lem c (name_not_array c h) (omega arith) true (sym h) refl)

  -- only 5 is of the kind "array"
  pub kind_array_lem : kind_of c ≡ Ok Array → c ≡ 5
  kind_array_lem e = subst (Says c) e (kind_says c)

  -- a number of the kind "tuple of n" is 16384 + n, and n is at least 2
  pub kind_tuple : (n : ℕ) → kind_of c ≡ Ok (Tuple n) → (c ≡ 16384 + n) × (2 ≤ n)
  kind_tuple n e = subst (Says c) e (kind_says c)

  -- a number of no kind is none of these
  pub kind_unknown : (e : UnknownCode) → kind_of c ≡ Err e → (c ≡ 5 → ⊥) × (c < 16386) × (is_name c ≡ false)
  kind_unknown e is = subst (Says c) is (kind_says c)

-- 5 is of the kind "array"
pub array_kind : kind_of 5 ≡ Ok Array
array_kind = sym (is_array 5 refl)

-- 16384 + n is of the kind "tuple of n"
pub tuple_kind : (n : ℕ) → 2 ≤ n → kind_of (16384 + n) ≡ Ok (Tuple n)
tuple_kind n h = let e : 16384 + n - 16384 ≡ n = omega arith in rw (← is_tuple (16384 + n) (omega arith), e)
