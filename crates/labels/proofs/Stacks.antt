-- What a step writes to the stack and the memory.
use Prim.Native.Nat.{ℕ, ◌+◌, ◌*◌, ◌≤◌, ◌<◌}
use mathlib.Core.Path.{◌≡◌, refl, ap, ◌∙◌}
use mathlib.Core.Bool.{Bool, true, false, cond}
use mathlib.Core.List.{List, [], ◌∷◌}
use native.Mathlib.Numerals.{add-one}
use native.Mathlib.Omega.{arith}
use lib.ListN.{length}
use lib.Seq.{length-sets}
use Rattle.limits.specs.Layout.{slot_width, entry_width, entry_replaced}
use Rattle.labels.specs.Operands.{is_length_of}
use Rattle.labels.specs.Stack.{slot_one}
use Rattle.labels.specs.Stack.{entry_one, each_to}
use Rattle.labels.specs.Step.{small_word}

-- either way as long as before
pub either_length : (b : Bool) (s t : List ℕ) → length t ≡ length s → length (cond b t s) ≡ length s
either_length true s t e = e
either_length false s t e = refl

pub slot_length : (path : ℕ) (s : List ℕ) (i : ℕ) → length (slot_one path s i) ≡ length s
slot_length path s i = either_length (is_length_of path _) s _ (length-sets s (i * slot_width) (small_word 1))

pub entry_length : (path : ℕ) (s : List ℕ) (i : ℕ) → length (entry_one path s i) ≡ length s
entry_length path s i = either_length (is_length_of path _) s _ (length-sets s (i * entry_width + entry_replaced) (1 ∷ []))

-- the first i of n are changed, one after the other
pub record Changed (change : List ℕ → ℕ → List ℕ) (s : List ℕ) (n i : ℕ) (s' : List ℕ) : Type 0 where
  pub within : i ≤ n
  pub long : length s' ≡ length s
  pub each : s' ≡ each_to change i s

module _ (change : List ℕ → ℕ → List ℕ) (s : List ℕ) (n : ℕ) where
  pub changed_none : Changed change s n 0 s
  unfolding each_to
  changed_none = record { within = omega arith; long = refl; each = refl }

  pub changed_more : (s₁ s' : List ℕ) (i : ℕ) → ((t : List ℕ) (j : ℕ) → length (change t j) ≡ length t) → Changed change s n i s₁ → i < n → s' ≡ change s₁ i →
      Changed change s n (i + 1) s'
  unfolding each_to
  changed_more s₁ s' i keeps C l e = record {
    within = omega arith;
    long = ap length e ∙ keeps s₁ i ∙ C.long;
    each = rw (add-one i) (e ∙ ap (λ (t : List ℕ). change t i) C.each);
  }
