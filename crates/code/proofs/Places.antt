-- Laws of the byte at a place: what is read there, and what a byte that stands there says of the place.
use borrow.Author.Tests.{not-false}
use Rattle.std.proofs.Common.{not, arith, ◌≡◌, ℕ, ◌<◌, ◌≤◌, Bool, true, false, List, length, Option, Some, None, Bor, slice_get, option_copied, eqb, sym, refl, ap, ◌∙◌, ltb-true, ltb-false}
use Rattle.std.specs.Option.{option_eq, option_and_then}
use Rattle.opcode.specs.Lists.{push_size}
use Rattle.std.specs.Slice.{IsItemAt}
use Rattle.std.proofs.lemmas.Option.{slice_get_past, slice_get_read, slice_get_within}
use Rattle.code.specs.Bytes.{holds_byte, is_at, push_size_at}

-- what `get` lends is the element at the place
pub item_copied : (xs : List ℕ) (i : ℕ) (r : Option (Bor ℕ)) → IsItemAt xs i r → option_copied r ≡ slice_get xs i
item_copied xs i None h = sym (slice_get_past xs i (ltb-false i (length xs) (sym h.0)))
item_copied xs i (Some x) h = sym (slice_get_read xs (length xs) i x.now refl (ltb-true i (length xs) (sym h.0)) h.1)

-- comparing it with b asks whether b stands there
pub byte_law : (code : List ℕ) (at b : ℕ) (o : Option ℕ) → o ≡ slice_get code at → option_eq eqb o (Some b) ≡ is_at code at b
unfolding is_at
byte_law code at b o e = asks o ∙ ap (λ (p : Option ℕ). holds_byte p b) e
  where
    asks : (p : Option ℕ) → option_eq eqb p (Some b) ≡ holds_byte p b
    asks None = refl
    asks (Some x) = refl

-- what is pushed there, where a byte is lent and where none is
module _ (code : List ℕ) (at : ℕ) (r : Option (Bor ℕ)) (lent : IsItemAt code at r) where
  pub push_some : (x : Bor ℕ) → r ≡ Some x → (o : Option ℕ) → o ≡ push_size x.now → o ≡ push_size_at code at
  unfolding push_size_at
  push_some x e o f = f ∙ ap (λ (s : Option (Bor ℕ)). option_and_then push_size (option_copied s)) (sym e) ∙ ap (option_and_then push_size) (item_copied code at r lent)

  pub push_none : r ≡ None → None ≡ push_size_at code at
  unfolding push_size_at
  push_none e = ap (λ (s : Option (Bor ℕ)). option_and_then push_size (option_copied s)) (sym e) ∙ ap (option_and_then push_size) (item_copied code at r lent)

-- a byte stands only inside the code
pub inside : (code : List ℕ) (i b : ℕ) → is_at code i b ≡ true → i < length code
unfolding is_at
inside code i b e = go (slice_get code i) refl e
  where
    go : (o : Option ℕ) → slice_get code i ≡ o → holds_byte o b ≡ true → i < length code
    go None f t = cc
    go (Some x) f t = slice_get_within code i x f

-- the same where the code asks whether it stands there
pub stands_inside : (code : List ℕ) (i b : ℕ) (t : Bool) → t ≡ is_at code i b → not t ≡ false → i ≤ length code
stands_inside code i b t et e = let h = inside code i b (sym et ∙ not-false t e) in omega arith
