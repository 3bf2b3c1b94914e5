-- Lists with no number twice, and the counting argument: such a list within another is no longer than it, and the rest
-- makes up the sums.
use Prim.Native.Nat.{ℕ, zero, suc, ◌+◌, ◌≤◌, ◌<◌}
use mathlib.Core.Path.{◌≡◌, refl, sym, ap, ◌∙◌, subst}
use mathlib.Core.Logic.{inl, inr, ⊎_elim}
use mathlib.Core.List.{List, [], ◌∷◌}
use native.Mathlib.Omega.{arith}
use native.Mathlib.Decide.{ℕ_discrete}
use lib.ListN.{length}
use Rattle.facts.specs.Links.{In}

abbrev pub NoDup : List ℕ → Type 0
NoDup [] = Unit {0}
NoDup (x ∷ xs) = (In x xs → ⊥) × NoDup xs

-- the sum of f over a list
unfoldable pub total : (ℕ → ℕ) → List ℕ → ℕ
total f [] = 0
total f (x ∷ xs) = f x + total f xs

-- one taken out
record Without (x : ℕ) (m : List ℕ) : Type 0 where
  rest : List ℕ
  one : length m ≡ suc (length rest)
  others : (y : ℕ) → In y m → (y ≡ x → ⊥) → In y rest
  within : (y : ℕ) → In y rest → In y m
  sums : (f : ℕ → ℕ) → total f m ≡ f x + total f rest

without : (x : ℕ) (m : List ℕ) → In x m → Without x m
unfolding total
without x [] x'' = elim x'' [ ]
without x (y ∷ ys) (inl e) = record {
  rest = ys;
  one = refl;
  others = λ z i n. ⊎_elim (λ q. absurd (n (q ∙ sym e))) (λ j. j) i;
  within = λ z i. inr i;
  sums = λ f. ap (λ (z : ℕ). f z + total f ys) (sym e);
}
without x (y ∷ ys) (inr i) =
    let w = without x ys i in
    record {
      rest = y ∷ w.rest;
      one = ap suc w.one;
      others = λ z j n. ⊎_elim (λ q. inl q) (λ k. inr (w.others z k n)) j;
      within = λ z j. ⊎_elim (λ q. inl q) (λ k. inr (w.within z k)) j;
      sums = λ f. let s = w.sums f in omega arith;
    }

-- m is l and the rest, but for their order
pub record Split (l m : List ℕ) : Type 0 where
  pub rest : List ℕ
  pub count : length m ≡ length l + length rest
  pub within : (y : ℕ) → In y rest → In y m
  pub sums : (f : ℕ → ℕ) → total f m ≡ total f l + total f rest

pub split : (l m : List ℕ) → NoDup l → ((y : ℕ) → In y l → In y m) → Split l m
unfolding total
split [] m d s = record { rest = m; count = omega arith; within = λ y i. i; sums = λ f. omega arith }
split (x ∷ l) m d s =
    let w = without x m (s x (inl refl)) in
    let p = split l w.rest d.1 (λ y i. w.others y (s y (inr i)) (λ e. d.0 (subst (λ (z : ℕ). In z l) e i))) in
    record {
      rest = p.rest;
      count = let o = w.one in let c = p.count in omega arith;
      within = λ y i. w.within y (p.within y i);
      sums = λ f. let a = w.sums f in let b = p.sums f in omega arith;
    }

pub sub_length : (l m : List ℕ) → NoDup l → ((y : ℕ) → In y l → In y m) → length l ≤ length m
sub_length l m d s = let c = (split l m d s).count in omega arith

pub in_dec : (x : ℕ) (l : List ℕ) → Dec (In x l)
in_dec x [] = no (λ i. i)
in_dec x (y ∷ ys) = go (ℕ_discrete x y) (in_dec x ys)
  where
    go : Dec (x ≡ y) → Dec (In x ys) → Dec (In x (y ∷ ys))
    go (yes e) d = yes (inl e)
    go (no n) (yes i) = yes (inr i)
    go (no n) (no j) = no (λ i. ⊎_elim n j i)

-- 2 to n + 1
unfoldable pub span : ℕ → List ℕ
span zero = []
span (suc n) = suc (suc n) ∷ span n

pub length_span : (n : ℕ) → length (span n) ≡ n
unfolding span
length_span zero = refl
length_span (suc n) = ap suc (length_span n)

pub span_in : (n r : ℕ) → 1 < r → r ≤ n + 1 → In r (span n)
unfolding span
span_in zero r h k = absurd (omega arith)
span_in (suc n) r h k = go (span_in n r h) (ℕ_discrete r (suc (suc n)))
  where
    go : (r ≤ n + 1 → In r (span n)) → Dec (r ≡ suc (suc n)) → In r (suc (suc n) ∷ span n)
    go f (yes e) = inl e
    go f (no d) = inr (f (omega arith))

pub in_span : (n r : ℕ) → In r (span n) → (1 < r) × (r ≤ n + 1)
unfolding span
in_span zero r i = absurd i
in_span (suc n) r (inl e) = omega arith
in_span (suc n) r (inr i) = let h = in_span n r i in omega arith

pub span_nodup : (n : ℕ) → NoDup (span n)
unfolding span
span_nodup zero = tt
span_nodup (suc n) = ((λ i. let h = in_span n (suc (suc n)) i in omega arith), span_nodup n)

-- a list of n different numbers from 2 to n + 1 has them all
pub all_in : (n : ℕ) (l : List ℕ) → NoDup l → ((y : ℕ) → In y l → (1 < y) × (y ≤ n + 1)) → length l ≡ n → (r : ℕ) → 1 < r → r ≤ n + 1 → In r l
all_in n l d b e r h k = go (in_dec r l)
  where
    go : Dec (In r l) → In r l
    go (yes i) = i
    go (no j) =
        let s = sub_length (r ∷ l) (span n) (j, d) (λ y i. ⊎_elim (λ q. span_in n y (omega arith) (omega arith)) (λ m. let g = b y m in span_in n y g.0 g.1) i) in
        let q = length_span n in
        absurd (omega arith)

-- a list that has them all is no shorter
pub at_least : (n : ℕ) (l : List ℕ) → ((r : ℕ) → 1 < r → r ≤ n + 1 → In r l) → n ≤ length l
at_least n l f =
    let s = sub_length (span n) l (span_nodup n) (λ y i. let g = in_span n y i in f y g.0 g.1) in
    let q = length_span n in
    omega arith
