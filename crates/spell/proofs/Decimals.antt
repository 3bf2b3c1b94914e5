-- A number in decimal, as std writes it.
use mathlib.Core.Path.{◌≡◌, sym, ap, ◌∙◌}
use mathlib.Core.List.{List, ◌∷◌, [], ◌++◌}
use Prim.Native.Nat.{ℕ, ◌%◌, ◌^◌, ◌<◌}
use native.Mathlib.Omega.{arith}
use Rattle.std.specs.Fmt.{decimal as std_decimal}
use Rattle.std.proofs.lemmas.Fmt.{decimal_by_steps}
use Rattle.names.specs.Decimal.{digit, decimal}
use Rattle.names.proofs.Decimals.{decimal_one, decimal_more, decimal_short}

abbrev Same : ℕ → List ℕ → Type 0
Same n ds = n < 2 ^ 32 → decimal n ≡ ds

-- it is the same text
pub written_decimal : (n : ℕ) → n < 2 ^ 32 → std_decimal n ≡ decimal n
written_decimal n h =
    sym (decimal_by_steps Same (λ k l small. decimal_one k l)
    (λ k ds l tenth small. decimal_more k l small ∙ ap (λ (xs : List ℕ). xs ++ (digit (k % 10) ∷ [])) (tenth (omega arith)))
    n (omega arith) h)

pub ruleset decimals = (written_decimal, decimal_short)
