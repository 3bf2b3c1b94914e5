-- `all` over the numbers below n answers as the definition does.
use Prim.Native.Nat.{ℕ, zero, suc, ◌+◌}
use mathlib.Core.Path.{◌≡◌, refl, sym, ap, ◌∙◌}
use mathlib.Core.List.{List}
use mathlib.Core.Bool.{Bool, true, false, ◌&&◌, and-true}
use native.Mathlib.Numerals.{add-one}
use native.Mathlib.Omega.{arith}
use denote.Param.Members.{Mut}
use Rattle.std.specs.Prelude.{Option}
use Rattle.std.specs.Fn.{Called}
use Rattle.std.specs.Iterator.{YieldsThen}
use Rattle.std.specs.List.{FoldsTo, list_all, range_with_len}
use Rattle.std.specs.Option.{MatchOption}
use Rattle.std.proofs.lemmas.Iterator.{YieldsList}
use Rattle.std.proofs.lemmas.Iterator.Search.{all_from_yields_List}
use Rattle.zeros.specs.Zeros.{all_to}

and_assoc : (a b c : Bool) → ((a && b) && c) ≡ (a && (b && c))
and_assoc true b c = refl
and_assoc false b c = refl

-- those below a, and n more
and_more : (test : ℕ → Bool) (a n : ℕ) → (all_to test a && list_all test (range_with_len a n)) ≡ all_to test (a + n)
unfolding all_to
and_more test a zero = let q : a + 0 ≡ a = omega arith in and-true (all_to test a) ∙ ap (all_to test) (sym q)
and_more test a (suc n) =
    let rest = list_all test (range_with_len (a + 1) n) in
    let q : a + 1 + n ≡ a + suc n = omega arith in
    sym (and_assoc (all_to test a) (test a) rest) ∙ ap (λ (k : ℕ). all_to test k && rest) (sym (add-one a))
    ∙ and_more test (a + 1) n ∙ ap (all_to test) q

-- what `all` answered over the numbers below n, by a closure that answers as the test
pub all_below : {S F : Type 0} {steps : S → Option ℕ → S → Type 0} {s : S} {g : Mut F (ℕ × Unit {0}) Bool} (test : ℕ → Bool) (n : ℕ) (u : S) (f : F) (r : Bool)
    → (xs : List ℕ) × (o : Option ℕ) × (j : F) × YieldsThen steps s xs o u
    × FoldsTo (λ p i q. Called g p (i, tt) true q) f xs j
    × MatchOption o (r ≡ true) (λ i. (r ≡ false) × ((h : F) × Called g j (i, tt) false h))
    → YieldsList steps (λ i. i) s (range_with_len 0 n)
    → ((i : ℕ) (b : Bool) (q : F) → Called g f (i, tt) b q → (q ≡ f) × (b ≡ test i))
    → r ≡ all_to test n
unfolding all_to
all_below test n u f r ran yields k =
    let all : 0 + n ≡ n = omega arith in
    all_from_yields_List test u f r ran yields k ∙ and_more test 0 n ∙ ap (all_to test) all
