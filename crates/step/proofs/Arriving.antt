-- A step that is refused leaves everything, and one that question 1 or 2 refuses is so whatever else it is handed.
use Prim.Native.Nat.{ℕ}
use mathlib.Core.Path.{◌≡◌, sym, ap}
use mathlib.Core.Bool.{Bool, false, cond}
use mathlib.Core.List.{List}
use lib.Dec.{eqb}
use Rattle.limits.specs.Refusal.{taken, number_of}
use Rattle.limits.specs.declared.refusal.Refusal.{Refusal}
use Rattle.limits.proofs.Refusals.{not_taken}
use Rattle.head.specs.Asked.{first_no, FirstNo}
use Rattle.head.specs.Admitting.{Admits, AdmittedBy}
use Rattle.head.proofs.Asking.{sound_asked, refused_so}
use Rattle.std.specs.Prelude.{Err}
use Rattle.std.specs.declared.result.Result.{Result}
use Rattle.step.specs.Call.{Lent, effect, questions, tests_of, Outcome}

module _ (l : Lent) (bytes x : List ℕ) where
  pub refused : (k : ℕ) → eqb k taken ≡ false → FirstNo (questions l bytes x) k → Outcome l bytes x k l
  refused k z f = record { asked = f; leaves = ap (λ (b : Bool). cond b (effect l bytes x) l) (sym z) }

  pub not_admitted : (a : Result ℕ Refusal) → AdmittedBy l.held a → (r : Refusal) → a ≡ Err r
      → Outcome l bytes x (number_of r) l
  not_admitted a is r e = refused (number_of r) (not_taken r) (refused_so l.held a is (tests_of l bytes x) r e)

  -- with a sound table the tests decide
  pub refused_by : (N k : ℕ) → Admits l.held N → eqb k taken ≡ false → first_no (tests_of l bytes x) ≡ k
      → Outcome l bytes x k l
  refused_by N k A z e = refused k z (sound_asked l.held (tests_of l bytes x) N k A (sym e))
