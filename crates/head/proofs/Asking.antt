-- `one_no`: questions have one first "no" only; and what follows once 1 and 2 are passed.
use Prim.Native.Nat.{ℕ}
use mathlib.Core.Path.{◌≡◌, refl, sym, ap, subst, ◌∙◌}
use mathlib.Core.Bool.{true≢false}
use mathlib.Core.Logic.{inl, inr}
use mathlib.Core.List.{List, []}
use native.Mathlib.Omega.{arith}
use lib.Dec.{eqb}
use lib.ListN.{length}
use Rattle.limits.specs.Refusal.{taken, number_of}
use Rattle.limits.specs.declared.refusal.Refusal.{Refusal}
use Rattle.limits.proofs.Refusals.{not_taken}
use Rattle.facts.specs.Count.{Counted}
use Rattle.facts.specs.Sound.{Sound}
use Rattle.std.specs.Prelude.{Ok, Err}
use Rattle.std.specs.declared.result.Result.{Result}
use Rattle.head.specs.Held.{Held, HasRecords, IsSound}
use Rattle.head.specs.Asked.{Test, first_no, Questions, tests, ask, FirstNo, after_sound}
use Rattle.head.specs.Admitting.{Admits, AdmittedBy}

pub one_no : (q : Questions) (n m : ℕ) → FirstNo q n → FirstNo q m → n ≡ m
one_no (tests ts) n m e d = e ∙ sym d
one_no (ask Q k rest) n m (inl a) (inl b) = a.1 ∙ sym b.1
one_no (ask Q k rest) n m (inl a) (inr b) = absurd (a.0 b.0)
one_no (ask Q k rest) n m (inr a) (inl b) = absurd (b.0 a.0)
one_no (ask Q k rest) n m (inr a) (inr b) = one_no rest n m a.1 b.1

module _ (h : Held) (ts : List Test) where
  -- with a sound table the tests decide
  pub sound_asked : (n k : ℕ) → Admits h n → k ≡ first_no ts → FirstNo (after_sound h ts) k
  sound_asked n k A e = inr (A.counted, inr (A.sound, e))

  pub sound_first : HasRecords h → IsSound h → (k : ℕ) → FirstNo (after_sound h ts) k → k ≡ first_no ts
  sound_first C S k f = one_no (after_sound h ts) k (first_no ts) f (inr (C, inr (S, refl)))

  -- a call that is taken has passed all
  pub taken_first : FirstNo (after_sound h ts) taken → HasRecords h × IsSound h × (first_no ts ≡ taken)
  taken_first (inl a) = absurd (let e = a.1 in omega arith)
  taken_first (inr (C, inl a)) = absurd (let e = a.1 in omega arith)
  taken_first (inr (C, inr (S, e))) = (C, S, sym e)

  -- a call that is refused by 1 or 2 is so whatever its tests are
  refused_asked : (r : Refusal) → FirstNo (after_sound h []) (number_of r) → FirstNo (after_sound h ts) (number_of r)
  refused_asked r (inl a) = inl a
  refused_asked r (inr (C, inl a)) = inr (C, inl a)
  refused_asked r (inr (C, inr (S, e))) =
      absurd (true≢false (sym (ap (λ (k : ℕ). eqb k taken) e) ∙ not_taken r))

-- what is admitted, by the number of records that the code holds
module _ (h : Held) (n : ℕ) (A : Admits h n) where
  pub admitted_count : Counted (length h.table) n
  admitted_count = subst (Counted (length h.table)) (sym A.is) A.counted

  pub admitted_sound : Sound h.table h.head.used n
  admitted_sound = subst (Sound h.table h.head.used) (sym A.is) A.sound.sound

-- what the code's answer to 1 and 2 says, by its case
module _ (h : Held) (a : Result ℕ Refusal) (is : AdmittedBy h a) where
  pub refused_so : (ts : List Test) (r : Refusal) → a ≡ Err r → FirstNo (after_sound h ts) (number_of r)
  refused_so ts r e = refused_asked h ts r (subst (AdmittedBy h) e is)
