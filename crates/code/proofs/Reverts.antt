-- The byte strings of an empty revert, after one JUMPDEST, from a place on.
use Rattle.std.proofs.Common.{Some, nat_eq, ◌≡◌, ℕ, ◌-◌, ◌<◌, ◌≤◌, Bool, false, ◌&&◌, ◌||◌, List, [], ◌∷◌, length, take, drop, eqb, get_or, sym, refl, ap, ◌∙◌, arith, inl, inr, ◌⊎◌, length-drop, eq-eqb, ne_eqb}
use Rattle.std.proofs.Math.ListN.{drop_of_length-le}
use lib.Seq.{take_all}
use Rattle.std.specs.List.{list_any, starts_with}
use Rattle.opcode.specs.Opcode.{JUMPDEST}
use Rattle.code.specs.Revert.{begins, begins_any, begins_empty_revert, empty_reverts, after_jumpdest, is_empty_revert}
use Rattle.code.specs.Guard.{revert_at}

-- a byte string begins a part as the library's `starts_with` says
starts_begins : (s part : List ℕ) → starts_with nat_eq part s ≡ begins s part
unfolding begins
starts_begins [] part = refl
starts_begins (x ∷ s) [] = refl
starts_begins (x ∷ s) (y ∷ part) = ap (λ (t : Bool). eqb x y && t) (starts_begins s part)

pub any_begins : (ss : List (List ℕ)) (part : List ℕ) → list_any (λ s. starts_with nat_eq part s) ss ≡ begins_any ss part
unfolding begins_any
any_begins [] part = refl
any_begins (s ∷ ss) part = λ i. starts_begins s part i || any_begins ss part i

-- the part of a slice from a place on, as the code lends it
from_place : (l : List ℕ) (a : ℕ) → take (length l - a) (drop a l) ≡ drop a l
from_place l a = take_all (length l - a) (drop a l) (simp length-drop (omega arith))

module _ (code : List ℕ) (at : ℕ) where
  pub revert_past : (length code < at) ⊎ (length code < length code) → false ≡ revert_at code (Some at)
  unfolding is_empty_revert after_jumpdest begins_any empty_reverts begins
  revert_past (inl h) = ap is_empty_revert (sym (drop_of_length-le code (omega arith)))
  revert_past (inr h) = absurd (omega arith)

after_is : (part : List ℕ) → 1 ≤ length part → get_or part 0 0 ≡ JUMPDEST → drop 1 part ≡ after_jumpdest part
unfolding after_jumpdest
after_is [] n e = absurd (omega arith)
after_is (x ∷ part) n e = simp (eq-eqb x JUMPDEST e)

after_not : (part : List ℕ) → (get_or part 0 0 ≡ JUMPDEST → ⊥) → part ≡ after_jumpdest part
unfolding after_jumpdest
after_not [] n = refl
after_not (x ∷ part) n = simp (ne_eqb x JUMPDEST n)

module _ (part : List ℕ) (r : Bool) where
  pub past_jumpdest : 1 ≤ length part → get_or part 0 0 ≡ JUMPDEST → r ≡ begins_empty_revert (take (length part - 1) (drop 1 part)) → r ≡ is_empty_revert part
  unfolding is_empty_revert
  past_jumpdest n e er = er ∙ ap begins_empty_revert (from_place part 1 ∙ after_is part n e)

  pub no_jumpdest : (get_or part 0 0 ≡ JUMPDEST → ⊥) → r ≡ begins_empty_revert part → r ≡ is_empty_revert part
  unfolding is_empty_revert
  no_jumpdest n er = er ∙ ap begins_empty_revert (after_not part n)

  pub no_byte : length part < 1 → r ≡ begins_empty_revert part → r ≡ is_empty_revert part
  no_byte h = no_jumpdest (λ e. apart part h e)
    where
      apart : (l : List ℕ) → length l < 1 → get_or l 0 0 ≡ JUMPDEST → ⊥
      apart [] l e = omega arith
      apart (x ∷ l) h e = omega arith
