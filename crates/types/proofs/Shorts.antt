-- The text of well-formed types has at most nine bytes for each of their codes.
use mathlib.Core.Path.{◌≡◌}
use mathlib.Core.Bool.{true}
use Prim.Native.Nat.{◌+◌, ◌*◌, ◌≤◌}
use native.Mathlib.Omega.{arith}
use lib.ListN.{length, length-append}
use Rattle.names.specs.Ascii.{ascii}
use Rattle.names.proofs.Texts.{name_short}
use Rattle.types.specs.Tree.{AbiType, AbiTypes, elementary, array, tuple, nil, cons, well_formed, all_well_formed}
use Rattle.types.specs.Codes.{codes, all_codes}
use Rattle.types.specs.Text.{text, list_text, more_text}
use Rattle.types.proofs.Formed.{head_formed, tail_formed, tuple_parts}
use Rattle.types.proofs.Sizes.{cons_length}

-- the entries alone are no longer than with a comma before each
list_less : (ts : AbiTypes) → length (list_text ts) ≤ length (more_text ts)
unfolding text
list_less nil = omega arith
list_less (cons t ts) = omega arith

mutual
  unfolding text codes well_formed

  type_short : (t : AbiType) → well_formed t ≡ true → length (text t) + 1 ≤ 9 * length (codes t)
  type_short (elementary e) h = omega (arith, name_short e h)
  type_short (array t) h = omega (arith, type_short t h, length-append (text t) (ascii "[]"))
  type_short (tuple ts) h =
      omega (arith, list_less ts, more_short ts (tuple_parts ts h), length-append (list_text ts) (ascii ")"))

  more_short : (ts : AbiTypes) → all_well_formed ts ≡ true → length (more_text ts) ≤ 9 * length (all_codes ts)
  more_short nil h = omega arith
  more_short (cons t ts) h =
      omega (
        arith,
        type_short t (head_formed t ts h),
        more_short ts (tail_formed t ts h),
        length-append (text t) (more_text ts),
        cons_length t ts,
      )

pub list_short : (ts : AbiTypes) → all_well_formed ts ≡ true → length (list_text ts) ≤ 9 * length (all_codes ts)
list_short ts h = omega (arith, list_less ts, more_short ts h)
