-- How many records an operation adds, and which paths are missing after it.
use Prim.Native.Nat.{ℕ, ◌+◌, ◌≤◌}
use mathlib.Core.Path.{◌≡◌, refl, sym, ap, ◌∙◌}
use mathlib.Core.Bool.{Bool, true, false, true≢false, cond, ◌&&◌, ◌||◌, and-eq-true_iff}
use mathlib.Core.List.{List, [], ◌∷◌}
use native.Mathlib.Omega.{arith}
use lib.Dec.{eqb}
use lib.ListN.{length}
use borrow.Author.Tests.{eqb-true, eq-eqb}
use Rattle.std.specs.Prelude.{Option, None, Some}
use Rattle.facts.specs.State.{Node}
use Rattle.paths.specs.Find.{find_in}
use Rattle.paths.specs.Adds.{missing, AddsPath}
use Rattle.paths.proofs.Adds.{adds_missing, adds_missing_else, same_missing}
use Rattle.operations.specs.declared.FullPath.{FullPath}
use Rattle.operations.specs.declared.Operation.{Operation}
use Rattle.operations.specs.Run.{run, run_all}
use Rattle.operations.specs.Asks.{makes, same, lacks}
use Rattle.operations.proofs.Changes.{AddsMade, run_adds}

pub lacks_most : (s : List Node) (f : Option FullPath) → lacks s f ≤ 1
unfolding lacks missing
lacks_most s None = omega arith
lacks_most s (Some f) = go (eqb (find_in s f.path f.offset) 0)
  where
    go : (b : Bool) → cond b 1 0 ≤ 1
    go true = omega arith
    go false = omega arith

module _ (s : List Node) (o : Operation) where
  pub run_size : length (run s o) ≡ length s + lacks s (makes o)
  unfolding lacks
  run_size = go (makes o) (run_adds s o)
    where
      go : (m : Option FullPath) → AddsMade s m (run s o) → length (run s o) ≡ length s + lacks s m
      go None A = let a = A.size in omega arith
      go (Some f) A = A.size

  pub run_grows : length s ≤ length (run s o)
  run_grows = let e = run_size in omega arith

  -- a path that was made is there, and another one lacks what it did
  pub run_lacks : (f : Option FullPath) → lacks (run s o) f ≡ cond (same (makes o) f) 0 (lacks s f)
  unfolding lacks
  run_lacks f = go (makes o) f (run_adds s o)
    where
      made : (f g : FullPath) (b : Bool) → same (Some f) (Some g) ≡ b → AddsPath s f.path f.offset (run s o)
          → missing (run s o) g.path g.offset ≡ cond b 0 (missing s g.path g.offset)
      made f g true e A =
          let w = (and-eq-true_iff (eqb f.path g.path) (eqb f.offset g.offset)).0 e in
          let p = sym (eqb-true f.path g.path w.0) in
          let k = sym (eqb-true f.offset g.offset w.1) in
          (λ i. missing (run s o) (p i) (k i)) ∙ adds_missing s f.path f.offset (run s o) A
      made f g false e A =
          adds_missing_else s f.path f.offset (run s o) A g.path g.offset
          (λ a b.
          let p = eq-eqb f.path g.path a in
          let k = eq-eqb f.offset g.offset b in
          let both : same (Some f) (Some g) ≡ true = λ i. p i && k i in
          true≢false (sym both ∙ e))

      go : (m f : Option FullPath) → AddsMade s m (run s o) → lacks (run s o) f ≡ cond (same m f) 0 (lacks s f)
      go None None A = refl
      go None (Some g) A = same_missing s (run s o) A g.path g.offset
      go (Some f) None A = refl
      go (Some f) (Some g) A = made f g (same (Some f) (Some g)) refl A

-- two marks of what is counted already
counted : (x y : Bool) (m : ℕ) → cond (x || y) 0 m ≡ cond y 0 (cond x 0 m)
counted true true m = refl
counted true false m = refl
counted false true m = refl
counted false false m = refl

-- how many of three paths are missing; equal ones are one
abbrev pub added_by : List Node → Option FullPath → Option FullPath → Option FullPath → ℕ
added_by s f g h = lacks s f + cond (same f g) 0 (lacks s g) + cond (same f h || same g h) 0 (lacks s h)

module _ (s : List Node) (a b c : Operation) where
  third : lacks (run (run s a) b) (makes c)
      ≡ cond (same (makes a) (makes c) || same (makes b) (makes c)) 0 (lacks s (makes c))
  third =
      run_lacks (run s a) b (makes c) ∙ ap (cond (same (makes b) (makes c)) 0) (run_lacks s a (makes c))
      ∙ sym (counted (same (makes a) (makes c)) (same (makes b) (makes c)) (lacks s (makes c)))

  pub three_size : length (run_all s (a ∷ b ∷ c ∷ [])) ≡ length s + added_by s (makes a) (makes b) (makes c)
  unfolding run_all
  three_size =
      let x = run_size s a in
      let y = run_size (run s a) b in
      let z = run_size (run (run s a) b) c in
      let v = run_lacks s a (makes b) in
      let w = third in
      omega arith
