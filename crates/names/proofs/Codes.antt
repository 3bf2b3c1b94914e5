-- A name's code stands for the type whose code it is: `is_name`, `code_of` and `of_code` agree.
use mathlib.Core.Path.{◌≡◌, refl, sym, ◌∙◌}
use mathlib.Core.Bool.{true, cond, and-eq-true_iff}
use Prim.Native.Nat.{ℕ, zero, suc, ◌+◌, ◌-◌, ◌%◌, ◌≤◌, ◌<◌}
use native.Mathlib.Decide.{dec_lt}
use native.Mathlib.Omega.{arith}
use borrow.Author.Tests.{leb-true, lt-ltb, le-ltb, ne_eqb}
use lib.Dec.{eqb, leb, ltb}
use Rattle.limits.specs.Between.{between}
use Rattle.names.specs.Elementary.{Elementary, bool, address, bytes, string, uint, int, fixed_bytes, is_bits}
use Rattle.names.specs.Elementary.{is_name, good_width, code_of, of_code}
use Rattle.names.proofs.Ranges.{name_below, name_uint, name_int, name_bytes}

-- a number that passes the test lies between
pub between_bounds : (low high n : ℕ) → between low high n ≡ true → (low ≤ n) × (n ≤ high)
between_bounds low high n h =
    let p = (and-eq-true_iff (leb low n) (leb n high)).0 h in
    (leb-true low n p.0, leb-true n high p.1)

pub bits_bounds : (n : ℕ) → is_bits n ≡ true → (8 ≤ n) × (n ≤ 256)
bits_bounds n h = between_bounds 8 256 n ((and-eq-true_iff (between 8 256 n) (eqb (n % 8) 0)).0 h).0

back : (base n : ℕ) → base + n - base ≡ n
back base n = omega arith

-- a type's code is the code of a name
pub code_is_name : (e : Elementary) → good_width e ≡ true → is_name (code_of e) ≡ true
unfolding is_name code_of good_width
code_is_name bool h = refl
code_is_name address h = refl
code_is_name bytes h = refl
code_is_name string h = refl
code_is_name (uint n) h =
    let b = bits_bounds n h in sym (name_uint (1000 + n) (omega arith) (omega arith) true (rw back (sym h)))
code_is_name (int n) h =
    let b = bits_bounds n h in sym (name_int (2000 + n) (omega arith) (omega arith) true (rw back (sym h)))
code_is_name (fixed_bytes n) h = rw (← name_bytes (3000 + n) (omega arith), back) h

-- above the four names of one code each
pub above : (c : ℕ) → 4 < c
    → of_code c
    ≡ cond (ltb c 2000) (uint (c - 1000)) (cond (ltb c 3000) (int (c - 2000)) (fixed_bytes (c - 3000)))
unfolding of_code
above c h =
    simp (ne_eqb c 1 (omega arith), ne_eqb c 2 (omega arith), ne_eqb c 3 (omega arith), ne_eqb c 4 (omega arith))

-- a type's code stands for the type
pub of_code_lem : (e : Elementary) → good_width e ≡ true → of_code (code_of e) ≡ e
unfolding of_code code_of good_width
of_code_lem bool h = refl
of_code_lem address h = refl
of_code_lem bytes h = refl
of_code_lem string h = refl
of_code_lem (uint n) h =
    let b = bits_bounds n h in
    above (1000 + n) (omega arith) ∙ simp (lt-ltb (1000 + n) 2000 (omega arith), back)
of_code_lem (int n) h =
    let b = bits_bounds n h in
    above (2000 + n) (omega arith)
    ∙ simp (le-ltb (2000 + n) 2000 (omega arith), lt-ltb (2000 + n) 3000 (omega arith), back)
of_code_lem (fixed_bytes n) h =
    above (3000 + n) (omega arith)
    ∙ simp (le-ltb (3000 + n) 2000 (omega arith), le-ltb (3000 + n) 3000 (omega arith), back)

-- a type whose code the number is
record Named (c : ℕ) : Type 0 where
  type : Elementary
  width : good_width type ≡ true
  code : c ≡ code_of type

-- each name's code is the code of a type, range by range
named : (c : ℕ) → is_name c ≡ true → Named c
unfolding code_of good_width
named c h = go (dec_lt c 1000) (dec_lt c 2000) (dec_lt c 3000)
  where
    low : (n : ℕ) → 1 ≤ n → n ≤ 4 → Named n
    low zero l u = absurd (omega arith)
    low (suc zero) l u = record { type = bool; width = refl; code = refl }
    low (suc (suc zero)) l u = record { type = address; width = refl; code = refl }
    low (suc (suc (suc zero))) l u = record { type = bytes; width = refl; code = refl }
    low (suc (suc (suc (suc zero)))) l u = record { type = string; width = refl; code = refl }
    low (suc (suc (suc (suc (suc n))))) l u = absurd (omega arith)

    go : Dec (c < 1000) → Dec (c < 2000) → Dec (c < 3000) → Named c
    go (yes p) q r = let b = between_bounds 1 4 c (name_below c p ∙ h) in low c b.0 b.1
    go (no p) (yes q) r =
        record { type = uint (c - 1000); width = name_uint c (omega arith) q _ refl ∙ h; code = omega arith }
    go (no p) (no q) (yes r) =
        record { type = int (c - 2000); width = name_int c (omega arith) r _ refl ∙ h; code = omega arith }
    go (no p) (no q) (no r) =
        record { type = fixed_bytes (c - 3000); width = name_bytes c (omega arith) ∙ h; code = omega arith }

module _ (c : ℕ) (h : is_name c ≡ true) where
  -- the type that a name's code stands for has that code
  pub name_is_code : code_of (of_code c) ≡ c
  name_is_code = let n = named c h in let e = of_code_lem n.type n.width in cc

  -- and a width that the ABI specification knows
  pub name_has_width : good_width (of_code c) ≡ true
  name_has_width = let n = named c h in let e = of_code_lem n.type n.width in cc

-- where the codes of names lie
code_range : (e : Elementary) → good_width e ≡ true → (1 ≤ code_of e) × (code_of e ≤ 3032) × (code_of e ≡ 5 → ⊥)
unfolding code_of good_width
code_range bool h = omega arith
code_range address h = omega arith
code_range bytes h = omega arith
code_range string h = omega arith
code_range (uint n) h = let b = bits_bounds n h in omega arith
code_range (int n) h = let b = bits_bounds n h in omega arith
code_range (fixed_bytes n) h = let b = between_bounds 1 32 n h in omega arith

module _ (c : ℕ) (h : is_name c ≡ true) where
  name_range : (1 ≤ c) × (c ≤ 3032) × (c ≡ 5 → ⊥)
  name_range = let n = named c h in rw n.code (code_range n.type n.width)

  -- no name's code is above that of 32 fixed bytes
  pub name_small : c ≤ 3032
  name_small = name_range.1

  -- a name's code is not that of an array
  pub name_not_array : c ≡ 5 → ⊥
  name_not_array = name_range.2

  -- a name's code is not 0
  pub name_some : 1 ≤ c
  name_some = name_range.0

  -- and where it is none of the first four, a width is added
  pub name_wide : (c ≡ 1 → ⊥) → (c ≡ 2 → ⊥) → (c ≡ 3 → ⊥) → (c ≡ 4 → ⊥) → 1000 ≤ c
  name_wide n1 n2 n3 n4 = go (dec_lt c 1000)
    where
      go : Dec (c < 1000) → 1000 ≤ c
      go (yes p) = let b = between_bounds 1 4 c (name_below c p ∙ h) in absurd (omega arith)
      go (no p) = omega arith
