-- The steps of the bench readings as numbers: "Step (59): op, pc after the step, two operands as slots, pick, load
-- flag, load label." A test over a step's numbers tells that they are u32 (`are_u32`).
use Rattle.std.specs.Prelude.{ℕ, zero, suc, ◌^◌, ◌≡◌, refl, Bool, true, false, ◌&&◌, List, [], ◌∷◌, ◌++◌, T, ltb, None}
use Rattle.std.proofs.Common.{not-suc-le-zero, le_of_suc-le-suc, sym, subst, lit<}
use Rattle.opcode.specs.Opcode.{MUL, CALLDATALOAD, MSTORE8}
use Rattle.labels.specs.declared.Label.TheVariants.{Unlabelled, Arg}
use Rattle.labels.specs.Label.{label_numbers}
use Rattle.labels.specs.Step.{small_word}
use Rattle.calls.specs.Fits.{AreU32}
use Rattle.calls.specs.Facts.{Call, step}

-- "Stack slot: word, label (21)."; a word below 2^32 with no label
abbrev pub unlabelled : ℕ → List ℕ
unlabelled word = small_word word ++ label_numbers Unlabelled

-- (offset o, record r, added a): the word 0 with an argument's label, unmasked
abbrev pub argument : ℕ → ℕ → ℕ → List ℕ
argument o r a =
    small_word 0 ++ label_numbers (Arg (record { offset = o; path = r; add_val = a; and_mask = None }))

-- an opcode with its operands; pc 0, no pick, nothing loaded
abbrev pub numbers : ℕ → List ℕ → List ℕ → List ℕ
numbers op first second = (op ∷ 0 ∷ []) ++ first ++ second ++ (0 ∷ 0 ∷ []) ++ label_numbers Unlabelled

-- is each number of the list a u32?
abbrev pub all_u32 : List ℕ → Bool
all_u32 [] = true
all_u32 (x ∷ xs) = ltb x (2 ^ 32) && all_u32 xs

both : (a b : Bool) → T (a && b) → T a × T b
both true b t = (tt, t)
both false b t = absurd t

-- then they are
pub are_u32 : (xs : List ℕ) → T (all_u32 xs) → AreU32 xs
are_u32 [] t i l = absurd (not-suc-le-zero l)
are_u32 (x ∷ xs) t zero l = lit< (both (ltb x (2 ^ 32)) (all_u32 xs) t).0
are_u32 (x ∷ xs) t (suc i) l = are_u32 xs (both (ltb x (2 ^ 32)) (all_u32 xs) t).1 i (le_of_suc-le-suc l)

-- the step of these numbers: "Empty code .. With one slot each"; no entries. In place of numbers that are no u32 stand
-- none, which question 4 refuses
unfoldable pub call_by : (xs : List ℕ) (b : Bool) → all_u32 xs ≡ b → Call
call_by xs true e = step [] (unlabelled 0) [] xs (are_u32 xs (subst T (sym e) tt))
call_by xs false e = step [] (unlabelled 0) [] [] (are_u32 [] tt)

abbrev pub call : List ℕ → Call
call xs = call_by xs (all_u32 xs) refl

-- "loads at word 4 unlabelled": at a word
abbrev pub load_at : ℕ → Call
load_at word = call (numbers CALLDATALOAD (unlabelled word) (unlabelled 0))

-- "then at (offset 0, root, added 4)"
abbrev pub load_behind : Call
load_behind = call (numbers CALLDATALOAD (argument 0 1 4) (unlabelled 0))

-- "then MUL of (offset 0, record 2) by 32": by a multiplier
abbrev pub mul_by : ℕ → Call
mul_by multiplier = call (numbers MUL (argument 0 2 0) (unlabelled multiplier))

-- MSTORE8 of the label (offset o, record r), which names that argument
abbrev pub name_at : ℕ → ℕ → Call
name_at o r = call (numbers MSTORE8 (argument o r 0) (unlabelled 0))

-- "chain of 64 keys 0": of n, each below the one before, whose record is r at first
abbrev pub chain_from : ℕ → ℕ → List Call
chain_from r zero = []
chain_from r (suc n) = name_at 0 r ∷ chain_from (suc r) n
