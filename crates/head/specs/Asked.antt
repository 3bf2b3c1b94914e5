-- "The questions are taken in this order; the first "no" gives its number".
use Rattle.std.specs.Prelude.{ℕ, ◌≡◌, Bool, cond, ◌⊎◌, List, [], ◌∷◌, leb, length}
use Rattle.limits.specs.Limits.{code_max}
use Rattle.limits.specs.Refusal.{taken, number_of}
use Rattle.limits.specs.declared.refusal.Refusal.{Refusal}
use Rattle.limits.specs.declared.refusal.Refusal.TheVariants.{NoRecords, Unsound}
use Rattle.head.specs.Held.{Held, HasRecords, IsSound}

-- a question that a test decides, and what a "no" says
pub record Test : Type 0 where
  pub passes : Bool
  pub refusal : Refusal

abbrev pub test : Bool → Refusal → Test
test passes refusal = record { passes = passes; refusal = refusal }

-- the number that the first "no" gives, 0 where there is none
abbrev pub first_no : List Test → ℕ
first_no [] = taken
first_no (t ∷ ts) = cond t.passes (first_no ts) (number_of t.refusal)

-- questions that are no tests stand before those that are
pub data Questions : Type 1 where
  tests : List Test → Questions
  ask : Type 0 → Refusal → Questions → Questions

-- n is the number that the first "no" gives. (`one_no`: there is one such number only.)
abbrev pub FirstNo : Questions → ℕ → Type 0
FirstNo (tests ts) n = n ≡ first_no ts
FirstNo (ask Q r rest) n = ((Q → ⊥) × (n ≡ number_of r)) ⊎ (Q × FirstNo rest n)

-- 3. "Is the code at most 65,536 bytes?"
abbrev pub code_fits : List ℕ → Bool
code_fits bytes = leb (length bytes) code_max

-- 1 and 2, and then the tests of a call that gets a sound table
abbrev pub after_sound : Held → List Test → Questions
after_sound h ts = ask (HasRecords h) NoRecords (ask (IsSound h) Unsound (tests ts))
