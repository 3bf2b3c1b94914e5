-- How many bytes of a form, low ones or leading ff, a mask is: what `bytes_of` gives, and how the code gets it from a
-- run of low ones.
use Rattle.std.proofs.Common.{Option, Some, None}
use mathlib.Core.Path.{◌≡◌, refl, sym, ap, ◌∙◌}
use mathlib.Core.Logic.{◌↔◌}
use mathlib.Core.Bool.{Bool, true, false, cond}
use Prim.Native.Nat.{ℕ, zero, suc, ◌+◌, ◌-◌, ◌*◌, ◌/◌, ◌%◌, ◌^◌, ◌≤◌, ◌<◌}
use native.Mathlib.Omega.{arith}
use lib.Arith.{le_of_le-suc-ne}
use lib.Dec.{eqb}
use lib.Pow.{pow_pos, pow_mono, pow-sub-lt}
use borrow.Author.Tests.{eqb-true, eqb-false}
use Rattle.mask.specs.Mask.{low_ones, leading_ff, bytes_of, low_bytes, leading_bytes}
use Rattle.mask.specs.Run.{Run}
use Rattle.mask.proofs.Runs.{power_ones}

-- m has the form at n from 1 to k, or at no such number
abbrev pub Count : (ℕ → ℕ) → ℕ → ℕ → Option ℕ → Type 0
Count form m k (Some n) = (0 < n) × (n ≤ k) × (m ≡ form n)
Count form m k None = (i : ℕ) → 0 < i → i ≤ k → m ≡ form i → ⊥

-- m has the form at one number at most
abbrev pub Once : (ℕ → ℕ) → ℕ → ℕ → Type 0
Once form m k = (i j : ℕ) → i ≤ k → j ≤ k → m ≡ form i → m ≡ form j → i ≡ j

-- `bytes_of` counts
bytes_count : (form : ℕ → ℕ) (m k : ℕ) → Count form m k (bytes_of form m k)
unfolding bytes_of
bytes_count form m zero = λ i p q f. absurd (omega arith)
bytes_count form m (suc k) = go (bytes_count form m k) (eqb m (form (suc k))) refl
  where
    more : (o : Option ℕ) → (m ≡ form (suc k) → ⊥) → Count form m k o → Count form m (suc k) o
    more (Some n) f c = (c.0, let l = c.1 in omega arith, c.2)
    more None f c = λ i p q e. c i p (le_of_le-suc-ne q (λ s. f (e ∙ ap form s))) e

    go : Count form m k (bytes_of form m k) → (t : Bool) → eqb m (form (suc k)) ≡ t → Count form m (suc k) (cond t (Some (suc k)) (bytes_of form m k))
    go below true e = (omega arith, omega arith, eqb-true m (form (suc k)) e)
    go below false e = more (bytes_of form m k) (eqb-false m (form (suc k)) e) below

-- there is one count
count_same : (form : ℕ → ℕ) (m k : ℕ) → Once form m k → (a b : Option ℕ) → Count form m k a → Count form m k b → a ≡ b
count_same form m k once (Some i) (Some j) x y = ap Some (once i j x.1 y.1 x.2 y.2)
count_same form m k once (Some i) None x y = absurd (y i x.0 x.1 x.2)
count_same form m k once None (Some j) x y = absurd (x j y.0 y.1 y.2)
count_same form m k once None None x y = refl

-- m has the form at i where w, which is m or its complement, is a run of `bits i` low ones
record Shape (form bits : ℕ → ℕ) (m w : ℕ) : Type 0 where
  same : (i : ℕ) → i ≤ 32 → (m ≡ form i) ↔ (w + 1 ≡ 2 ^ bits i)
  fits : (i : ℕ) → i ≤ 32 → bits i ≤ 256
  distinct : (i j : ℕ) → i ≤ 32 → j ≤ 32 → bits i ≡ bits j → i ≡ j

-- low ones are one less than a power of two
low_shape : (m : ℕ) → Shape low_ones (λ i. 8 * i) m m
unfolding low_ones
low_shape m = record {
  same = λ i h. (λ e. omega (arith, pow_pos (8 * i)), λ e. omega arith);
  fits = λ i h. omega arith;
  distinct = λ i j p q e. omega arith;
}

-- leading ff bytes with the rest zero are the complement of low ones
leading_shape : (m w : ℕ) → m < 2 ^ 256 → w ≡ 2 ^ 256 - 1 - m → Shape leading_ff (λ i. 256 - 8 * i) m w
unfolding leading_ff
leading_shape m w l e = record {
  same = λ i h. rest (2 ^ 256) (2 ^ (256 - 8 * i)) l e (pow_mono {j = 256} (omega arith));
  fits = λ i h. omega arith;
  distinct = λ i j p q f. omega arith;
}
  where
    rest : (M p : ℕ) → m < M → w ≡ M - 1 - m → p ≤ M → (m ≡ M - p) ↔ (w + 1 ≡ p)
    rest M p l e h = (λ f. omega arith, λ f. omega arith)

module _ (form bits : ℕ → ℕ) (m w : ℕ) (shape : Shape form bits m w) where
  shape_once : Once form m 32
  shape_once i j p q e f =
      shape.distinct i j p q (sym (power_ones w (bits i) ((shape.same i p).0 e)) ∙ power_ones w (bits j) ((shape.same j q).0 f))

  -- what counts is what `bytes_of` gives
  shape_count : (o : Option ℕ) → Count form m 32 o → o ≡ bytes_of form m 32
  shape_count o c = count_same form m 32 shape_once o (bytes_of form m 32) c (bytes_count form m 32)

  -- the bytes of a run of r low ones of w
  run_bytes : (r n : ℕ) → Run w (Some r) → 0 < n → n ≤ 32 → bits n ≡ r → Some n ≡ bytes_of form m 32
  run_bytes r n run p q e = shape_count (Some n) (p, q, (shape.same n q).1 (run.1 ∙ ap (λ (k : ℕ). 2 ^ k) (sym e)))

  -- none, where the bits of no number of bytes are that many, or w is no run
  run_none : (r : ℕ) → Run w (Some r) → ((i : ℕ) → 0 < i → i ≤ 32 → bits i ≡ r → ⊥) → None ≡ bytes_of form m 32
  run_none r run none =
      shape_count None (λ i p q e. none i p q (sym (power_ones w (bits i) ((shape.same i q).0 e)) ∙ power_ones w r run.1))

  no_bytes : Run w None → None ≡ bytes_of form m 32
  no_bytes none = shape_count None (λ i p q e. none (bits i) (shape.fits i q) ((shape.same i q).0 e))

-- the count that the code takes from a run of low ones: whole bytes, broken ones, and no run
module _ (m : ℕ) where
  pub low_lost : Run m None → None ≡ low_bytes m
  low_lost none = no_bytes low_ones _ m m (low_shape m) none

  module _ (r : ℕ) (run : Run m (Some r)) where
    pub low_whole : r % 8 ≡ 0 → 0 < r → Some (r / 8) ≡ low_bytes m
    low_whole e p = let s = run.0 in run_bytes low_ones _ m m (low_shape m) r (r / 8) run (omega arith) (omega arith) (omega arith)

    pub low_broken : (r % 8 ≡ 0 → ⊥) → None ≡ low_bytes m
    low_broken f = run_none low_ones _ m m (low_shape m) r run (λ i p q e. f (omega arith))

    pub low_empty : r ≤ 0 → None ≡ low_bytes m
    low_empty z = run_none low_ones _ m m (low_shape m) r run (λ i p q e. omega arith)

-- and from a run of low ones of the complement
module _ (m w : ℕ) (l : m < 2 ^ 256) (e : w ≡ 2 ^ 256 - 1 - m) where
  pub leading_lost : Run w None → None ≡ leading_bytes m
  leading_lost none = no_bytes leading_ff _ m w (leading_shape m w l e) none

  module _ (r : ℕ) (run : Run w (Some r)) where
    pub leading_whole : r % 8 ≡ 0 → r < 256 → Some (32 - r / 8) ≡ leading_bytes m
    leading_whole z h = run_bytes leading_ff _ m w (leading_shape m w l e) r (32 - r / 8) run (omega arith) (omega arith) (omega arith)

    pub leading_broken : (r % 8 ≡ 0 → ⊥) → None ≡ leading_bytes m
    leading_broken f = run_none leading_ff _ m w (leading_shape m w l e) r run (λ i p q g. f (omega arith))

    pub leading_empty : 256 ≤ r → None ≡ leading_bytes m
    leading_empty h = run_none leading_ff _ m w (leading_shape m w l e) r run (λ i p q g. omega arith)

-- what the definition counts, for every number m, and that nothing else counts
pub low_count : (m : ℕ) → Count low_ones m 32 (low_bytes m)
low_count m = bytes_count low_ones m 32

pub leading_count : (m : ℕ) → Count leading_ff m 32 (leading_bytes m)
leading_count m = bytes_count leading_ff m 32

pub low_counted : (m : ℕ) (o : Option ℕ) → Count low_ones m 32 o → o ≡ low_bytes m
low_counted m o c = shape_count low_ones _ m m (low_shape m) o c

pub leading_counted : (m : ℕ) (o : Option ℕ) → Count leading_ff m 32 o → o ≡ leading_bytes m
unfolding leading_ff
leading_counted m o c = count_same leading_ff m 32 once o (leading_bytes m) c (leading_count m)
  where
    below : (i : ℕ) → m ≡ leading_ff i → m < 2 ^ 256
    below i e = rw e (pow-sub-lt 256 (pow_pos (256 - 8 * i)))

    once : Once leading_ff m 32
    once i j p q e = shape_once leading_ff _ m _ (leading_shape m (2 ^ 256 - 1 - m) (below i e) refl) i j p q e

-- what a count of low bytes follows from, case by case
pub ruleset low_counts = (low_whole, low_empty, low_broken, low_lost)
