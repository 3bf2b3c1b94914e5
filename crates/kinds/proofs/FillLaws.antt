-- Filling the head word by word: what a word adds does not depend on the words before it, so the room can be known
-- before any is made.
use Prim.Native.Nat.{ℕ, zero, suc, ◌+◌, ◌*◌, ◌≤◌, ◌<◌}
use mathlib.Core.Path.{◌≡◌, refl, sym, ap, ◌∙◌}
use mathlib.Core.Bool.{cond}
use mathlib.Core.Logic.{◌⊎◌, inl, inr}
use mathlib.Core.List.{List}
use native.Mathlib.Omega.{arith}
use native.Mathlib.Nat.{eq-or-lt_of_le}
use native.Mathlib.Numerals.{add-one}
use lib.Dec.{eqb}
use lib.ListN.{length}
use borrow.Author.Tests.{eq-eqb}
use Rattle.limits.specs.Limits.{word_bytes}
use Rattle.facts.specs.State.{Node, nodes}
use Rattle.facts.proofs.Encode.{length_nodes}
use Rattle.paths.specs.Find.{find_in}
use Rattle.paths.specs.Make.{get_or_create}
use Rattle.paths.specs.Adds.{missing}
use Rattle.paths.proofs.Reach.{length_create}
use Rattle.paths.proofs.Lookups.{find_create}
use Rattle.kinds.specs.Fill.{fill}
use Rattle.kinds.specs.Missing.{fill_missing}

-- the words before do not change what a key finds
pub find_fill : (s : List Node) (i k : ℕ) → word_bytes * i ≤ k → find_in (fill s i) 1 k ≡ find_in s 1 k
unfolding fill
find_fill s zero k h = refl
find_fill s (suc i) k h = find_create (fill s i) 1 (word_bytes * i) 1 k (λ _ e. omega arith) ∙ find_fill s i k (omega arith)

missing_fill : (s : List Node) (i : ℕ) → missing (fill s i) 1 (word_bytes * i) ≡ missing s 1 (word_bytes * i)
unfolding missing
missing_fill s i = ap (λ (r : ℕ). cond (eqb r 0) 1 0) (find_fill s i (word_bytes * i) (omega arith))

-- the fill adds as many paths as `fill_missing` says
pub length_fill : (s : List Node) (i : ℕ) → length (fill s i) ≡ length s + fill_missing s i
unfolding fill fill_missing
length_fill s zero = omega arith
length_fill s (suc i) =
    let a = length_create (fill s i) 1 (word_bytes * i) in let b = missing_fill s i in let e = length_fill s i in omega arith

missing_next : (s : List Node) (i : ℕ) → fill_missing s (i + 1) ≡ fill_missing s i + missing s 1 (word_bytes * i)
unfolding fill_missing
missing_next s i = ap (fill_missing s) (add-one i)

missing_rises : (s : List Node) (i n : ℕ) → i ≤ n → fill_missing s i ≤ fill_missing s n
unfolding fill_missing
missing_rises s i zero h = let z : i ≡ 0 = omega arith in rw z (omega arith)
missing_rises s i (suc n) h = go (missing_rises s i n) (eq-or-lt_of_le h)
  where
    go : (i ≤ n → fill_missing s i ≤ fill_missing s n) → (i ≡ suc n) ⊎ (i < suc n) → fill_missing s i ≤ fill_missing s n + missing s 1 (word_bytes * n)
    go f (inl e) = let q : fill_missing s i ≡ fill_missing s n + missing s 1 (word_bytes * n) = ap (fill_missing s) e in omega arith
    go f (inr l) = let q = f (omega arith) in omega arith

missing_one : (s : List Node) (p k : ℕ) → find_in s p k ≡ 0 → missing s p k ≡ 1
unfolding missing
missing_one s p k z = rw (eq-eqb (find_in s p k) 0 z) refl

-- before word i of `fill_missing`
pub record Lacking (s : List Node) (words absent i : ℕ) : Type 0 where
  pub low : i ≤ words
  pub few : absent ≤ i
  pub same : absent ≡ fill_missing s i

pub lacking_start : (s : List Node) (words : ℕ) → Lacking s words 0 0
unfolding fill_missing
lacking_start s words = record { low = omega arith; few = omega arith; same = refl }

pub lacking_next : (s : List Node) (words absent i m k : ℕ) → Lacking s words absent i → i < words → k ≡ word_bytes * i → m ≡ missing s 1 k → m ≤ 1
    → Lacking s words (absent + m) (i + 1)
lacking_next s words absent i m k I h e q o = record {
  low = omega arith;
  few = let f = I.few in omega arith;
  same = let a = I.same in let b = missing_next s i in let w = ap (missing s 1) e in omega arith;
}

-- before word i of `fill`: the state is s with the words before it
pub record Filling (s : List Node) (words : ℕ) (t : List ℕ) (used i : ℕ) : Type 0 where
  pub low : i ≤ words
  pub state : nodes t used ≡ fill s i

pub filling_start : (t : List ℕ) (used words : ℕ) → Filling (nodes t used) words t used 0
unfolding fill
filling_start t used words = record { low = omega arith; state = refl }

filling_used : (s : List Node) (words : ℕ) (t : List ℕ) (used i : ℕ) → Filling s words t used i → used ≡ length s + fill_missing s i
filling_used s words t used i I = sym (length_nodes t used) ∙ ap length I.state ∙ length_fill s i

module _ (t₀ : List ℕ) (used₀ words : ℕ) (t : List ℕ) (used i : ℕ) (I : Filling (nodes t₀ used₀) words t used i) where
  -- there is room for the word, if there was for all of them
  pub filling_room : (N : ℕ) → i < words → used₀ + fill_missing (nodes t₀ used₀) words ≤ N → find_in (nodes t used) 1 (word_bytes * i) ≡ 0 → used < N
  filling_room N h room z =
      let a = filling_used (nodes t₀ used₀) words t used i I in
      let l = length_nodes t₀ used₀ in
      let f : find_in (nodes t₀ used₀) 1 (word_bytes * i) ≡ 0 =
      sym (find_fill (nodes t₀ used₀) i (word_bytes * i) (omega arith)) ∙ ap (λ (s : List Node). find_in s 1 (word_bytes * i)) (sym I.state) ∙ z in
      let m = missing_one (nodes t₀ used₀) 1 (word_bytes * i) f in
      let n = missing_next (nodes t₀ used₀) i in
      let r = missing_rises (nodes t₀ used₀) (i + 1) words (omega arith) in
      omega arith

  pub filling_next : (t' : List ℕ) (used' : ℕ) → i < words → nodes t' used' ≡ (get_or_create (nodes t used) 1 (word_bytes * i)).state
      → Filling (nodes t₀ used₀) words t' used' (i + 1)
  unfolding fill
  filling_next t' used' h e = record {
    low = omega arith;
    state = e ∙ ap (λ (s : List Node). (get_or_create s 1 (word_bytes * i)).state) I.state ∙ ap (fill (nodes t₀ used₀)) (sym (add-one i));
  }

  pub filling_done : words ≤ i → (nodes t used ≡ fill (nodes t₀ used₀) words) × (used ≡ used₀ + fill_missing (nodes t₀ used₀) words)
  filling_done h =
      let e : i ≡ words = (let l = I.low in omega arith) in
      let a = filling_used (nodes t₀ used₀) words t used i I in
      let l = length_nodes t₀ used₀ in
      let q = ap (fill_missing (nodes t₀ used₀)) e in
      (I.state ∙ ap (fill (nodes t₀ used₀)) e, omega arith)
