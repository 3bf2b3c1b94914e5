-- "read the code from that place on, after one JUMPDEST if it stands there; it begins, in hex, 5f 5f fd, 5f 80 fd, 5f
-- 60 00 fd, 60 00 5f fd, 60 00 80 fd or 60 00 60 00 fd".
use Rattle.std.specs.Prelude.{ℕ, Bool, true, false, cond, ◌&&◌, ◌||◌, List, [], ◌∷◌, eqb}
use Rattle.opcode.specs.Opcode.{JUMPDEST}

-- does the part begin with the byte string?
unfoldable pub begins : List ℕ → List ℕ → Bool
begins [] part = true
begins (x ∷ s) [] = false
begins (x ∷ s) (y ∷ part) = eqb x y && begins s part

unfoldable pub begins_any : List (List ℕ) → List ℕ → Bool
begins_any [] part = false
begins_any (s ∷ ss) part = begins s part || begins_any ss part

unfoldable pub empty_reverts : List (List ℕ)
empty_reverts =
    (0x5f ∷ 0x5f ∷ 0xfd ∷ [])
    ∷ (0x5f ∷ 0x80 ∷ 0xfd ∷ [])
    ∷ (0x5f ∷ 0x60 ∷ 0x00 ∷ 0xfd ∷ [])
    ∷ (0x60 ∷ 0x00 ∷ 0x5f ∷ 0xfd ∷ [])
    ∷ (0x60 ∷ 0x00 ∷ 0x80 ∷ 0xfd ∷ [])
    ∷ (0x60 ∷ 0x00 ∷ 0x60 ∷ 0x00 ∷ 0xfd ∷ [])
    ∷ []

abbrev pub begins_empty_revert : List ℕ → Bool
begins_empty_revert part = begins_any empty_reverts part

-- the part after one JUMPDEST, if it stands there
unfoldable pub after_jumpdest : List ℕ → List ℕ
after_jumpdest [] = []
after_jumpdest (x ∷ part) = cond (eqb x JUMPDEST) part (x ∷ part)

unfoldable pub is_empty_revert : List ℕ → Bool
is_empty_revert part = begins_empty_revert (after_jumpdest part)
