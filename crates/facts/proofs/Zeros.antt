-- Numbers that are zero from a place on, part by part: a head, blocks of one length, and what is left.
use Prim.Native.Nat.{ℕ, zero, suc, ◌+◌, ◌-◌, ◌*◌, ◌/◌, ◌≤◌, ◌<◌}
use mathlib.Core.Path.{◌≡◌, sym, ◌∙◌}
use mathlib.Core.Bool.{Bool, true, false, true≢false}
use mathlib.Core.Logic.{⊎_elim}
use mathlib.Core.List.{List, []}
use native.Mathlib.Omega.{arith}
use lib.ListN.{length, take, drop}
use Rattle.std.specs.Simd.{first_chunks}
use Rattle.std.specs.Bool.{MatchBool}
use Rattle.std.specs.List.{All, AllWithin, HoldsAt}
use Rattle.std.proofs.Math.Seq.{take-length}
use Rattle.std.proofs.lemmas.List.{length-take-le, length-drop, get_or-take, get_or-drop, drop-drop}
use Rattle.zeros.specs.Zeros.{zeros}
use Rattle.zeros.proofs.Laws.{zeros_each, each_zeros}
use Rattle.facts.specs.Access.{ZeroFrom}
use Rattle.facts.specs.Checks.{Tells}
use Rattle.facts.proofs.Laws.{lt_or_ge}

-- all numbers of a part are zero
abbrev pub Zero : List ℕ → Type 0
Zero xs = ZeroFrom xs 0

pub zeros_tell : (xs : List ℕ) (b : Bool) → b ≡ zeros xs 0 (length xs) → Tells b (Zero xs)
zeros_tell xs true e = λ i h l. let o : 0 + i ≡ i = omega arith in rw o at (zeros_each xs 0 (length xs) (sym e) i l)
zeros_tell xs false e = λ Z. true≢false (sym (each_zeros xs 0 (length xs) (λ i l. let o : 0 + i ≡ i = omega arith in rw o (Z i (omega arith) l))) ∙ sym e)

module _ (m : ℕ) (xs : List ℕ) where
  behind_from : Zero (drop m xs) → ZeroFrom xs m
  behind_from Z i h l =
      let e : m + (i - m) ≡ i = omega arith in
      sym (rw e at (get_or-drop m xs (i - m) 0)) ∙ Z (i - m) (omega arith) (omega (arith, length-drop m xs))

  from_behind : ZeroFrom xs m → Zero (drop m xs)
  from_behind Z i h l = get_or-drop m xs i 0 ∙ Z (m + i) (omega arith) (omega (arith, length-drop m xs))

  back_zero : Zero xs → Zero (drop m xs)
  back_zero Z = from_behind (λ i h l. Z i (omega arith) l)

  module _ (w : m ≤ length xs) where
    front_zero : Zero xs → Zero (take m xs)
    front_zero Z i h l =
        let e = length-take-le m xs w in
        get_or-take m xs i 0 (omega arith) ∙ Z i h (omega arith)

    both_zero : Zero (take m xs) → Zero (drop m xs) → Zero xs
    both_zero A B i h l =
        let e = length-take-le m xs w in
        ⊎_elim (λ (k : i < m). sym (get_or-take m xs i 0 k) ∙ A i h (omega arith)) (λ (k : m ≤ i). behind_from B i k l) (lt_or_ge i m)

-- k blocks of n numbers
chunks_zero : (n k : ℕ) (xs : List ℕ) → k * n ≤ length xs → All Zero (first_chunks n k xs) → Zero (drop (k * n) xs) → Zero xs
chunks_zero n zero xs w A Z = let o : 0 * n ≡ 0 = omega arith in rw o at Z
chunks_zero n (suc k) xs w A Z =
    let e = length-drop n xs in
    both_zero n xs (omega arith) (A 0 [] (omega arith))
    (chunks_zero n k (drop n xs) (omega arith) (λ j d l. A (suc j) d (omega arith)) (let q : suc k * n ≡ n + k * n = omega arith in rw (drop-drop (k * n) n xs) (rw q at Z)))

zero_chunks : (n k : ℕ) (xs : List ℕ) → k * n ≤ length xs → Zero xs → All Zero (first_chunks n k xs)
zero_chunks n zero xs w Z j d l = absurd (omega arith)
zero_chunks n (suc k) xs w Z zero d l = front_zero n xs (omega arith) Z
zero_chunks n (suc k) xs w Z (suc j) d l =
    let e = length-drop n xs in zero_chunks n k (drop n xs) (omega arith) (back_zero n xs Z) j d (omega arith)

-- what was asked of each block, of all of them
pub all_tell : (b : Bool) (xs : List (List ℕ)) → MatchBool b (AllWithin Zero xs 0 (length xs)) ((k : ℕ) × (k < length xs) × HoldsAt (λ x. Zero x → ⊥) xs k)
    → Tells b (All Zero xs)
all_tell true xs A = λ k d l. A k d (omega arith) l
all_tell false xs N = λ A. N.2 [] (A N.0 [] N.1)

-- the numbers of t from start on: a head of m, blocks of n as far as they go, and the tail
pub record Cut (t : List ℕ) (start m n : ℕ) (head rest : List ℕ) (blocks : List (List ℕ)) (tail : List ℕ) : Type 0 where
  pub within : m ≤ length (drop start t)
  pub head_is : head ≡ take m (drop start t)
  pub rest_is : rest ≡ drop m (drop start t)
  pub blocks_is : blocks ≡ first_chunks n (length rest / n) rest
  pub tail_is : tail ≡ drop (length rest / n * n) rest

module _ (t : List ℕ) (start m n : ℕ) (head rest : List ℕ) (blocks : List (List ℕ)) (tail : List ℕ) where
  pub cut : m ≤ length t - start
      → head ≡ take m (take (length t - start) (drop start t)) → rest ≡ drop m (take (length t - start) (drop start t))
      → blocks ≡ first_chunks n (length rest / n) rest → tail ≡ drop (length rest / n * n) rest
      → Cut t start m n head rest blocks tail
  cut w h r b e =
      let l = length-drop start t in
      let whole : take (length t - start) (drop start t) ≡ drop start t = rw (← l) (take-length (drop start t)) in
      record { within = omega arith; head_is = rw whole at h; rest_is = rw whole at r; blocks_is = b; tail_is = e }

module _
    (t : List ℕ) (start m n : ℕ) (head rest : List ℕ) (blocks : List (List ℕ)) (tail : List ℕ)
    (C : Cut t start m n head rest blocks tail) (n1 : 0 < n) where
  head_zero : ZeroFrom t start → Zero head
  head_zero Z = rw C.head_is (front_zero m (drop start t) C.within (from_behind start t Z))

  rest_zero : ZeroFrom t start → Zero rest
  rest_zero Z = rw C.rest_is (back_zero m (drop start t) (from_behind start t Z))

  -- a part that is not zero
  pub head_told : (b : Bool) → Tells b (Zero head) → b ≡ false → ZeroFrom t start → ⊥
  head_told true A e = absurd (true≢false e)
  head_told false N e = λ Z. N (head_zero Z)

  pub blocks_told : (b : Bool) → Tells b (All Zero blocks) → b ≡ false → ZeroFrom t start → ⊥
  blocks_told true A e = absurd (true≢false e)
  blocks_told false N e =
      λ Z. N (rw C.blocks_is (zero_chunks n (length rest / n) rest (omega arith) (rest_zero Z)))

  -- the tail alone decides, once all before it is zero
  pub tail_tells : (b : Bool) → Zero head → All Zero blocks → Tells b (Zero tail) → Tells b (ZeroFrom t start)
  tail_tells true A B Z =
      let all : Zero rest = chunks_zero n (length rest / n) rest (omega arith) (rw C.blocks_is at B) (rw C.tail_is at Z) in
      behind_from start t (both_zero m (drop start t) C.within (rw C.head_is at A) (rw C.rest_is at all))
  tail_tells false A B N = λ Z. N (rw C.tail_is (back_zero (length rest / n * n) rest (rest_zero Z)))
