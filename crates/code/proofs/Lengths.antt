-- Where a comparison with the length stands.
use Rattle.std.proofs.Common.{◌≡◌, ℕ, ◌+◌, ◌≤◌, Bool, true, false, ◌&&◌, List, length, sym, refl, ◌∙◌, arith}
use Rattle.opcode.specs.Opcode.{CALLDATASIZE, LT}
use Rattle.code.specs.Bytes.{is_at}
use Rattle.code.specs.Length.{compares_size}
use Rattle.code.proofs.Places.{inside}

-- a comparison stands only inside the code
pub compares_inside : (code : List ℕ) (at : ℕ) (t : Bool) → t ≡ compares_size code at → t ≡ true → at ≤ length code
unfolding compares_size
compares_inside code at t et e =
    let h = inside code at CALLDATASIZE (first (is_at code at CALLDATASIZE) (is_at code (at + 1) LT) (sym et ∙ e)) in omega arith
  where
    first : (a b : Bool) → (a && b) ≡ true → a ≡ true
    first true b e = refl
    first false b e = e
