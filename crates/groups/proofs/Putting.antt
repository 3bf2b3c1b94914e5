-- The numbers that are read from a whole group are its parts, and the step call with them is the group's.
use Prim.Native.Nat.{ℕ, ◌+◌, ◌*◌, ◌-◌}
use mathlib.Core.Path.{◌≡◌, ap, subst, ◌∙◌}
use mathlib.Core.List.{List}
use native.Mathlib.Omega.{arith}
use lib.ListN.{length, take, drop, length-drop}
use lib.Seq.{take_all}
use Rattle.limits.specs.Input.{number_bytes}
use Rattle.limits.specs.Layout.{step_width}
use Rattle.trace.specs.Numbers.{numbers_of}
use Rattle.trace.specs.Group.{front_bytes, slot_numbers, entry_numbers}
use Rattle.head.specs.Held.{Held}
use Rattle.step.specs.Call.{Lent, lend}
use Rattle.step.specs.Call.{Outcome as StepOutcome}
use Rattle.groups.specs.Group.{step_in, stack_in, memory_in}
use Rattle.groups.specs.Call.{Put}

-- a part of the bytes up to their end
from : (bs : List ℕ) (at n k : ℕ) (l : List ℕ) → n ≡ k → l ≡ numbers_of n (take (length bs - at) (drop at bs))
    → l ≡ numbers_of k (drop at bs)
from bs at n k l en el =
    let all : take (length bs - at) (drop at bs) ≡ drop at bs = take_all (length bs - at) (drop at bs) (simp length-drop (omega arith)) in
    el ∙ (λ i. numbers_of (en i) (all i))

-- x, s and m are what was read for the step, the stack and the memory, to x₀, s₀ and m₀ numbers
module _ (h : Held) (code bs : List ℕ) (x₀ s₀ m₀ : ℕ) (x s m : List ℕ) (behind : ℕ) where
  pub put_parts : (number : ℕ) (h' : Held) (s' m' : List ℕ) → x₀ ≡ step_width → s₀ ≡ slot_numbers bs
      → m₀ ≡ entry_numbers bs
      → behind ≡ front_bytes + s₀ * number_bytes → x ≡ numbers_of x₀ bs
      → s ≡ numbers_of s₀ (take (length bs - front_bytes) (drop front_bytes bs))
      → m ≡ numbers_of m₀ (take (length bs - behind) (drop behind bs))
      → StepOutcome (lend h s m) code x number (lend h' s' m') → Put h code bs number h'
  put_parts number h' s' m' ex₀ es₀ em₀ eb ex es em o =
      let numbers : x ≡ step_in bs = ex ∙ ap (λ (n : ℕ). numbers_of n bs) ex₀ in
      let stack : s ≡ stack_in bs = from bs front_bytes s₀ (slot_numbers bs) s es₀ es in
      let at : behind ≡ front_bytes + slot_numbers bs * number_bytes = eb ∙ ap (λ (n : ℕ). front_bytes + n * number_bytes) es₀ in
      let memory : m ≡ memory_in bs =
      from bs behind m₀ (entry_numbers bs) m em₀ em ∙ ap (λ (n : ℕ). numbers_of (entry_numbers bs) (drop n bs)) at in
      let l : lend h s m ≡ lend h (stack_in bs) (memory_in bs) = λ i. lend h (stack i) (memory i) in
      record {
        stack = s';
        memory = m';
        outcome =
            subst (λ (z : Lent). StepOutcome z code (step_in bs) number (lend h' s' m')) l
            (subst (λ (z : List ℕ). StepOutcome (lend h s m) code z number (lend h' s' m')) numbers o);
      }
