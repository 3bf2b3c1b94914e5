-- Question 8's count: what its functions ask for, and what they tell.
use Prim.Native.Nat.{ℕ, ◌+◌, ◌-◌, ◌≤◌}
use mathlib.Core.Path.{◌≡◌, refl, sym, ap, ◌∙◌}
use mathlib.Core.Bool.{Bool, true, false, cond, ◌||◌}
use mathlib.Core.List.{List, [], ◌∷◌}
use native.Mathlib.Omega.{arith}
use lib.Dec.{leb}
use lib.ListN.{length}
use borrow.Author.Tests.{le-leb, leb-true, leb-false, lt-leb}
use Rattle.std.specs.Prelude.{Option}
use Rattle.facts.specs.State.{Node, nodes}
use Rattle.facts.proofs.Encode.{length_nodes}
use Rattle.paths.specs.Shape.{Shaped}
use Rattle.operations.specs.declared.FullPath.{FullPath}
use Rattle.operations.specs.declared.Operation.{Operation}
use Rattle.operations.specs.Run.{run_all}
use Rattle.operations.specs.Asks.{makes, same, lacks}
use Rattle.operations.proofs.Sizes.{lacks_most, added_by, three_size}

-- as much is free as is left
room_left : (x u n : ℕ) → u ≤ n → leb x (n - u) ≡ leb (u + x) n
room_left x u n h = go (leb x (n - u)) refl
  where
    go : (b : Bool) → leb x (n - u) ≡ b → b ≡ leb (u + x) n
    go true e = let l = leb-true x (n - u) e in sym (le-leb (u + x) n (omega arith))
    go false e = let l = leb-false x (n - u) e in sym (lt-leb (u + x) n (omega arith))

-- what is not counted already is at most one
one : (b : Bool) (m : ℕ) → m ≤ 1 → cond b 0 m ≤ 1
one true m h = omega arith
one false m h = h

-- three operations
module _ (t : List ℕ) (u n : ℕ) (a b c : Operation) (S : Shaped t u n) where
  size : length (run_all (nodes t u) (a ∷ b ∷ c ∷ [])) ≡ u + added_by (nodes t u) (makes a) (makes b) (makes c)
  size = let e = three_size (nodes t u) a b c in let l = length_nodes t u in omega arith

  pub room_enough : 3 ≤ n - u → true ≡ leb (length (run_all (nodes t u) (a ∷ b ∷ c ∷ []))) n
  room_enough h =
      let e = size in
      let m = S.most in
      let x = lacks_most (nodes t u) (makes a) in
      let y = one (same (makes a) (makes b)) (lacks (nodes t u) (makes b)) (lacks_most (nodes t u) (makes b)) in
      let z = one (same (makes a) (makes c) || same (makes b) (makes c)) (lacks (nodes t u) (makes c))
      (lacks_most (nodes t u) (makes c)) in
      sym (le-leb (length (run_all (nodes t u) (a ∷ b ∷ c ∷ []))) n (omega arith))

  pub room_counted : (f g h : Option FullPath) → f ≡ makes a → g ≡ makes b → h ≡ makes c
      → (x y z : Bool) → x ≡ same f g → y ≡ same f h → z ≡ same g h
      → (r r' r'' : ℕ) → r ≡ lacks (nodes t u) f → r' ≡ cond x 0 (lacks (nodes t u) g)
      → r'' ≡ cond (y || z) 0 (lacks (nodes t u) h)
      → leb (r + r' + r'') (n - u) ≡ leb (length (run_all (nodes t u) (a ∷ b ∷ c ∷ []))) n
  room_counted f g h ef eg eh x y z ex ey ez r r' r'' e e' e'' =
      room_left (r + r' + r'') u n S.most ∙ ap (λ (m : ℕ). leb m n) (ap (λ (m : ℕ). u + m) sum ∙ sym size)
    where
      s : List Node
      s = nodes t u

      sum : r + r' + r'' ≡ added_by (nodes t u) (makes a) (makes b) (makes c)
      sum =
          (λ i. e i + e' i + e'' i)
          ∙ (λ i. lacks s f + cond (ex i) 0 (lacks s g) + cond (ey i || ez i) 0 (lacks s h))
          ∙ (λ i. added_by (nodes t u) (ef i) (eg i) (eh i))
