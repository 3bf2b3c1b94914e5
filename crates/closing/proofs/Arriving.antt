-- A closing that is refused leaves everything, and one that question 1 or 2 refuses is so whatever else it is handed.
use Prim.Native.Nat.{ℕ}
use mathlib.Core.Path.{◌≡◌, refl, sym}
use mathlib.Core.Bool.{false}
use mathlib.Core.List.{List}
use lib.Dec.{eqb}
use Rattle.limits.specs.Refusal.{taken, number_of}
use Rattle.limits.specs.declared.refusal.Refusal.{Refusal}
use Rattle.limits.proofs.Refusals.{not_taken}
use Rattle.head.specs.Held.{Held}
use Rattle.std.specs.Prelude.{Ok, Err}
use Rattle.std.specs.Result.{IsErrAnd}
use Rattle.std.specs.declared.result.Result.{Result}
use Rattle.head.specs.Asked.{first_no, FirstNo}
use Rattle.head.specs.Admitting.{Admits, AdmittedBy}
use Rattle.head.proofs.Asking.{sound_asked, refused_so}
use Rattle.closing.specs.Words.{Handed}
use Rattle.closing.specs.declared.Closing.{Closing}
use Rattle.closing.specs.Answer.{refused, verdict_of}
use Rattle.closing.specs.Call.{tests_of, questions, Outcome}

module _ (t : Held) (types : List ℕ) (h : Handed) where
  nothing_done : (k : ℕ) → eqb k taken ≡ false → FirstNo (questions t h types) k → Outcome t types h (refused k) t types
  nothing_done k z f = record { number = k; asked = f; answers = rw z refl; leaves = rw z refl; writes = rw z refl }

  pub not_admitted : (a : Result Closing Refusal) (r : Refusal) → IsErrAnd a (λ (e : Refusal). e ≡ r) → AdmittedBy t (Err r)
      → Outcome t types h (verdict_of a) t types
  not_admitted (Ok said) r e is = absurd e
  not_admitted (Err q) r e is = rw e (nothing_done (number_of r) (not_taken r) (refused_so t (Err r) is (tests_of t h types) r refl))

  -- with a sound table the tests decide
  pub refused_by : (N k : ℕ) → Admits t N → eqb k taken ≡ false → first_no (tests_of t h types) ≡ k
      → Outcome t types h (refused k) t types
  refused_by N k A z e = nothing_done k z (sound_asked t (tests_of t h types) N k A (sym e))
