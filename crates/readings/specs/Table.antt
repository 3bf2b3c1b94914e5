-- "P1 to P12 are shown in one table with one result over the definitions": the table. (`bench_shown` is the result.)
use Rattle.std.specs.Prelude.{ℕ, ◌+◌, ◌-◌, ◌^◌, ◌≡◌, List, [], ◌∷◌, map}
use Rattle.limits.specs.Limits.{kind_dynamic}
use Rattle.limits.specs.Codes.{no_name, address, uint, fixed_bytes}
use Rattle.names.specs.Ascii.{ascii}
use Rattle.mask.specs.Mask.{and_mask_to_type}
use Rattle.closing.specs.Answer.{none, over}
use Rattle.readings.specs.Steps.{load_at, load_behind, mul_by, name_at, chain_from}
use Rattle.readings.specs.Said.{Said, name, paths, kind, list, left, answer, printed, trace, paths_in, kind_in}
use Rattle.readings.specs.Said.{answer_in, list_in, printed_in, left_in}

-- what the definitions say, and what document 01 says
pub record Case : Type 0 where
  pub defined : Said
  pub paper : Said

abbrev pub says : Said → Said → Case
says defined paper = record { defined = defined; paper = paper }

-- a reading: n of its name Pn, and its cases
pub record Reading : Type 0 where
  pub number : ℕ
  pub cases : List Case

abbrev pub P : ℕ → List Case → Reading
P number cases = record { number = number; cases = cases }

-- all of them, in the paper's order
unfoldable pub bench : List Reading
bench =
    -- P1. "loads at word 4 unlabelled, then at (offset 0, root, added 4), then MUL of (offset 0, record 2) by 32. With
    -- one slot each it prints exactly `args 1 left 8189 head 32` and `0 uint256[]` (word number, type)."
    P 1 (says (trace (load_at 4 ∷ load_behind ∷ mul_by 32 ∷ []) printed_in)
    (printed (ascii "args 1 left 8189 head 32\n0 uint256[]\n")) ∷ [])
    -- "P2 mask 0: none."
    ∷ P 2 (says (name (and_mask_to_type 0)) (name no_name) ∷ [])
    -- "P3 all ones: uint256."
    ∷ P 3 (says (name (and_mask_to_type (2 ^ 256 - 1))) (name (uint + 256)) ∷ [])
    -- "P4 2^160 − 1: address."
    ∷ P 4 (says (name (and_mask_to_type (2 ^ 160 - 1))) (name address) ∷ [])
    -- "P5 2^9 − 1: none."
    ∷ P 5 (says (name (and_mask_to_type (2 ^ 9 - 1))) (name no_name) ∷ [])
    -- "P6 four leading ff bytes: bytes4."
    ∷ P 6 (says (name (and_mask_to_type (2 ^ 256 - 2 ^ 224))) (name (fixed_bytes + 4)) ∷ [])
    -- "P7 load at 3: no fact"
    ∷ P 7 (says (trace (load_at 3 ∷ []) paths_in) (paths 0) ∷ [])
    -- "P8 at 130,047: list of 4,064; 130,048: none."
    ∷ P 8 (says (trace (load_at 130047 ∷ []) list_in) (list 4064)
    ∷ says (trace (load_at 130048 ∷ []) answer_in) (answer none) ∷ [])
    -- "P9 multiplier 3,168: left 8,091; 3,200: no mark.", in P1's trace, where record 2 stays dynamic
    ∷ P 9 (says (trace (load_at 4 ∷ load_behind ∷ mul_by 3168 ∷ []) left_in) (left 8091)
    ∷ says (trace (load_at 4 ∷ load_behind ∷ mul_by 3200 ∷ []) kind_in) (kind kind_dynamic) ∷ [])
    -- "P10 lone argument at key 262,080: left 0"
    ∷ P 10 (says (trace (name_at 262080 1 ∷ []) left_in) (left 0) ∷ [])
    -- "P11 at 262,112: over."
    ∷ P 11 (says (trace (name_at 262112 1 ∷ []) left_in) (answer over) ∷ [])
    -- "P12 chain of 64 keys 0: left 8,127; 65: over."
    ∷ P 12 (says (trace (chain_from 1 64) left_in) (left 8127)
    ∷ says (trace (chain_from 1 65) left_in) (answer over) ∷ [])
    ∷ []

-- the definitions say of each case what document 01 says
abbrev pub CasesShown : List Case → Type 0
CasesShown [] = Unit {0}
CasesShown (c ∷ cs) = (c.defined ≡ c.paper) × CasesShown cs

abbrev pub ReadingsShown : List Reading → Type 0
ReadingsShown [] = Unit {0}
ReadingsShown (r ∷ rs) = CasesShown r.cases × ReadingsShown rs

-- the table has all twelve, and each is shown
pub record Shown (rs : List Reading) : Type 0 where
  pub all_twelve : map (λ r. r.number) rs ≡ 1 ∷ 2 ∷ 3 ∷ 4 ∷ 5 ∷ 6 ∷ 7 ∷ 8 ∷ 9 ∷ 10 ∷ 11 ∷ 12 ∷ []
  pub each : ReadingsShown rs
