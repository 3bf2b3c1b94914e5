-- The names that a step gives are names: question 2's codes and widths.
use Rattle.std.proofs.Common.{Option, Some, None}
use Prim.Native.Nat.{ℕ, ◌+◌, ◌*◌, ◌/◌, ◌%◌, ◌≤◌, ◌<◌}
use mathlib.Core.Path.{◌≡◌, refl, ap, ◌∙◌}
use mathlib.Core.Bool.{Bool, true, false, cond, ◌&&◌, and-eq-true_iff}
use mathlib.Core.List.{List}
use mathlib.Core.Logic.{◌⊎◌, inl, inr}
use native.Mathlib.Omega.{arith}
use lib.Dec.{eqb, leb}
use borrow.Author.Tests.{le-leb, leb-true, eq-eqb, eqb-true}
use Rattle.limits.specs.Between.{between}
use Rattle.limits.specs.Codes as code
use Rattle.limits.specs.Limits.{word_bytes, address_bits}
use Rattle.names.specs.Elementary.{uint, int, fixed_bytes, is_bits, is_name, good_width, code_of}
use Rattle.names.proofs.Codes.{code_is_name}
use Rattle.code.specs.Guard.{guard_failure_pc}
use Rattle.mask.specs.Mask.{and_mask_to_type}
use Rattle.mask.proofs.Sentence.{mask_cases}
use Rattle.analyze.specs.Length.{is_place, bytes_shift}
use Rattle.analyze.specs.Name.{width_name}

-- no name, or a name
abbrev pub NoneOrName : ℕ → Type 0
NoneOrName name = (name ≡ code.no_name) ⊎ (is_name name ≡ true)

bits_good : (n : ℕ) → 8 ≤ n → n ≤ 256 → n % 8 ≡ 0 → is_bits n ≡ true
bits_good n l u e = λ i. le-leb 8 n l i && le-leb n 256 u i && eq-eqb (n % 8) 0 e i

pub uint_name : (n : ℕ) → 8 ≤ n → n ≤ 256 → n % 8 ≡ 0 → is_name (code.uint + n) ≡ true
unfolding code_of good_width
uint_name n l u e = code_is_name (uint n) (bits_good n l u e)

pub bytes_name : (n : ℕ) → 1 ≤ n → n ≤ 32 → is_name (code.fixed_bytes + n) ≡ true
unfolding code_of good_width
bytes_name n l u = code_is_name (fixed_bytes n) (λ i. le-leb 1 n l i && le-leb n 32 u i)

-- the four of one code each
pub bool_name : is_name code.bool ≡ true
unfolding is_name
bool_name = refl

pub address_name : is_name code.address ≡ true
unfolding is_name
address_name = refl

pub dynamic_bytes_name : is_name code.bytes ≡ true
unfolding is_name
dynamic_bytes_name = refl

pub string_name : is_name code.string ≡ true
unfolding is_name
string_name = refl

-- a mask's
pub mask_name : (m : ℕ) → NoneOrName (and_mask_to_type m)
mask_name m = go (and_mask_to_type m) (mask_cases m)
  where
    go : (name : ℕ) → (name ≡ code.no_name) ⊎ (name ≡ code.address) ⊎
        ((n : ℕ) × (1 ≤ n) × (n ≤ 32) × (name ≡ code.uint + 8 * n)) ⊎
        ((n : ℕ) × (1 ≤ n) × (n ≤ 32) × (name ≡ code.fixed_bytes + n)) → NoneOrName name
    go name (inl e) = inl e
    go name (inr (inl e)) = inr (ap is_name e ∙ address_name)
    go name (inr (inr (inl (n, l, u, e)))) =
        inr (ap is_name e ∙ uint_name (8 * n) (omega arith) (omega arith) (omega arith))
    go name (inr (inr (inr (n, l, u, e)))) = inr (ap is_name e ∙ bytes_name n l u)

-- an int of one byte more than n, as SIGNEXTEND gives
pub extended_name : (n : ℕ) → n < word_bytes → is_name (code.int + (n + 1) * 8) ≡ true
unfolding code_of good_width
extended_name n h = code_is_name (int ((n + 1) * 8)) (bits_good ((n + 1) * 8) (omega arith) (omega arith) (omega arith))

-- a guarded SHR's
pub width_name_lem : (w : ℕ) → NoneOrName (width_name w)
unfolding width_name
width_name_lem w = one (eqb w 1) (eqb w address_bits) (between 1 255 w && eqb (w % 8) 0) refl
  where
    one : (a b c : Bool) → (between 1 255 w && eqb (w % 8) 0) ≡ c
        → NoneOrName (cond a code.bool (cond b code.address (cond c (code.uint + w) code.no_name)))
    one true b c e = inr bool_name
    one false true c e = inr address_name
    one false false false e = inl refl
    one false false true e =
        let p = (and-eq-true_iff (between 1 255 w) (eqb (w % 8) 0)).0 e in
        let q = (and-eq-true_iff (leb 1 w) (leb w 255)).0 p.0 in
        let l = leb-true 1 w q.0 in
        let u = leb-true w 255 q.1 in
        let z = eqb-true (w % 8) 0 p.1 in
        inr (uint_name w (omega arith) (omega arith) z)

-- a guarded SHL's bytes are 1 to 32
abbrev pub BytesFit : Option ℕ → Type 0
BytesFit None = Unit {0}
BytesFit (Some n) = (1 ≤ n) × (n ≤ 32)

pub shift_most : (bytes : List ℕ) (pc shift : ℕ) → BytesFit (bytes_shift bytes pc shift)
unfolding bytes_shift
shift_most bytes pc shift = go (is_place (guard_failure_pc bytes pc true) && between 8 256 shift && eqb (shift % 8) 0) refl
  where
    guarded : Bool
    guarded = is_place (guard_failure_pc bytes pc true)

    go : (b : Bool) → (guarded && between 8 256 shift && eqb (shift % 8) 0) ≡ b → BytesFit (cond b (Some (shift / 8)) None)
    go true e =
        let p = ((and-eq-true_iff (guarded && between 8 256 shift) (eqb (shift % 8) 0)).0 e).0 in
        let q = ((and-eq-true_iff guarded (between 8 256 shift)).0 p).1 in
        let r = (and-eq-true_iff (leb 8 shift) (leb shift 256)).0 q in
        let l = leb-true 8 shift r.0 in
        let u = leb-true shift 256 r.1 in
        (omega arith, omega arith)
    go false e = tt
