-- The laws of `fld` and `put`.
use Prim.Native.Nat.{ℕ, suc, ◌+◌, ◌-◌, ◌*◌, ◌≤◌, ◌<◌}
use mathlib.Core.Path.{◌≡◌, ap}
use mathlib.Core.List.{List}
use native.Mathlib.Omega.{arith}
use native.Mathlib.Decide.{dec_lt}
use mathlib.Core.Logic.{◌⊎◌, inl, inr}
use lib.ListN.{length, get_or, length-set}
use lib.Seq.{get_or-set_same, get_or-set_other}
use Rattle.limits.specs.Limits.{record_width}
use Rattle.facts.specs.Table.{fld}
use Rattle.facts.specs.Access.{put}

pub length_put : (t : List ℕ) (r f v : ℕ) → length (put t r f v) ≡ length t
unfolding put
length_put t r f v = length-set t ((r - 1) * record_width + f) v

pub put_same : (t : List ℕ) (r f v : ℕ) → 1 ≤ r → r * record_width ≤ length t → f < record_width → fld (put t r f v) r f ≡ v
unfolding put fld
put_same t r f v h w l = get_or-set_same t ((r - 1) * record_width + f) v 0 (omega arith)

-- another record or another field
pub put_else : (t : List ℕ) (r f v s g : ℕ) → 1 ≤ r → f < record_width → 1 ≤ s → g < record_width → (s ≡ r → g ≡ f → ⊥) → fld (put t r f v) s g ≡ fld t s g
unfolding put fld
put_else t r f v s g r1 fl s1 gl n = get_or-set_other t ((r - 1) * record_width + f) ((s - 1) * record_width + g) v 0 (λ e. n (omega arith) (omega arith))

-- the place of a field in the table
pub column : (t : List ℕ) (n f i : ℕ) → n * record_width + f ≡ i → fld t (suc n) f ≡ get_or t i 0
unfolding fld
column t n f i e = ap (λ (j : ℕ). get_or t j 0) (omega arith)

pub lt_or_ge : (a b : ℕ) → (a < b) ⊎ (b ≤ a)
lt_or_ge a b = go (dec_lt a b)
  where
    go : Dec (a < b) → (a < b) ⊎ (b ≤ a)
    go (yes h) = inl h
    go (no n) = inr (omega arith)
