-- Names: what the code's tests and calls come to, over plain numbers, tables and states.
use Prim.Native.Nat.{ℕ}
use mathlib.Core.Path.{◌≡◌, refl, sym, ap, ◌∙◌}
use mathlib.Core.Bool.{Bool, true, false, cond, not, ◌&&◌, ◌||◌, and-false}
use mathlib.Core.List.{List}
use lib.Dec.{eqb, leb}
use Rattle.limits.specs.Codes as code
use Rattle.limits.specs.Confidences.{by_range}
use Rattle.facts.specs.State.{Node, node_of}
use Rattle.marks.specs.Names.{is_not_bool}

-- a case of a definition
pub case_yes : {A : Type 0} (b : Bool) (x y : A) → b ≡ true → x ≡ cond b x y
case_yes b x y e = sym (ap (λ (z : Bool). cond z x y) e)

pub case_no : {A : Type 0} (b : Bool) (x y : A) → b ≡ false → y ≡ cond b x y
case_no b x y e = sym (ap (λ (z : Bool). cond z x y) e)

-- the name at a record: does a block stop it, does the standing one keep its place?
abbrev pub stops : List Node → ℕ → ℕ → Bool
stops s r confidence = eqb confidence by_range && eqb (node_of s r).blocked 1

abbrev pub keeps : List Node → ℕ → ℕ → Bool
keeps s r confidence = not (eqb (node_of s r).name code.no_name) && leb confidence (node_of s r).confidence

-- a name set at a path: does a not-bool mark bar it?
abbrev pub bars : List Node → ℕ → ℕ → ℕ → ℕ → Bool
bars s p k name confidence = (eqb name code.bool || eqb confidence by_range) && is_not_bool s p k

module _ (s : List Node) (p k name confidence : ℕ) where
  pub no_bar : (eqb name code.bool || eqb confidence by_range) ≡ false → bars s p k name confidence ≡ false
  no_bar e = rw e refl

  pub no_mark : (b : Bool) → b ≡ is_not_bool s p k → b ≡ false → bars s p k name confidence ≡ false
  no_mark b e z = simp (sym e ∙ z, and-false)
