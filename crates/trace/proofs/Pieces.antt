-- A line stored piece by piece is the line.
use mathlib.Core.Path.{◌≡◌}
use mathlib.Core.List.{List, ◌++◌}
use Prim.Native.Nat.{ℕ, ◌+◌, ◌≤◌}
use native.Mathlib.Omega.{arith}
use lib.ListN.{length, length-append}
use Rattle.names.specs.Ascii.{ascii}
use Rattle.names.specs.Decimal.{decimal}
use Rattle.names.proofs.Decimals.{decimal_short}
use Rattle.spell.specs.Stored.{StoredAt, Stored}
use Rattle.trace.specs.Text.{args_line}

-- from the start of the slice on, the index behind the bytes is their length
pub stored_first : (l m : List ℕ) (r : ℕ) (xs : List ℕ) → StoredAt xs l 0 r m → Stored xs l r m
stored_first l m r xs s = (s.0, omega (arith, s.1))

-- the first line is short
args_short : (a b c : ℕ) → length (args_line a b c) ≤ 48
unfolding args_line
args_short a b c =
    let one : List ℕ = ascii "args " ++ decimal a in
    let two : List ℕ = one ++ (ascii " left " ++ decimal b) in
    let three : List ℕ = two ++ (ascii " head " ++ decimal c) in
    omega (
      arith,
      decimal_short a,
      decimal_short b,
      decimal_short c,
      length-append one (ascii " left " ++ decimal b),
      length-append two (ascii " head " ++ decimal c),
      length-append three (ascii "\n"),
    )

-- behind it there is room for the entries
pub args_room : (a b c from n m m' : ℕ) → n ≡ from + length (args_line a b c) → from + 245856 ≤ m → m' ≡ m
    → n + 245792 ≤ m'
args_room a b c from n m m' e h l = omega (arith, args_short a b c)
