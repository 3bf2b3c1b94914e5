-- The stack that a vector holds: pushed, popped, and closed one level after the other.
use mathlib.Core.Path.{◌≡◌, refl, sym, ap, ◌∙◌}
use mathlib.Core.List.{List, [], ◌∷◌, ◌++◌}
use Prim.Native.Nat.{ℕ, ◌+◌, ◌-◌, ◌≤◌, ◌<◌}
use native.Mathlib.Omega.{arith}
use borrow.Author.Tests.{le-leb, lt-leb}
use lib.ListN.{length, length-append}
use lib.Seq.{sets}
use Rattle.std.proofs.lemmas.List.{reverse-append}
use Rattle.types.proofs.KindLaws.{kind_name, kind_tuple}
use Rattle.spell.specs.Stored.{StoredAt}
use Rattle.spell.proofs.Stores.{sets_append}
use Rattle.text.specs.Machine.{closer, closers, still_open, stack_of}

-- what is put last is on top
pub stack_push : (held held' : List ℕ) (k : ℕ) → held' ≡ held ++ (k ∷ []) → stack_of held' ≡ k ∷ stack_of held
unfolding stack_of
stack_push held held' k e = rw (e, reverse-append) refl

-- what an answer of `write_code` needs of the code's kind
pub ruleset codes = (kind_name, kind_tuple, stack_push)

module _ (k : ℕ) (st : List ℕ) where
  -- an array, or a tuple after its last part, closes
  closers_shut : k ≤ 1 → closers (k ∷ st) ≡ closer k ++ closers st
  unfolding closers
  closers_shut h = simp (le-leb k 1 h)

  open_shut : k ≤ 1 → still_open (k ∷ st) ≡ still_open st
  unfolding still_open
  open_shut h = simp (le-leb k 1 h)

  -- a tuple with more parts stays open
  closers_stay : 1 < k → closers (k ∷ st) ≡ []
  unfolding closers
  closers_stay h = simp (lt-leb k 1 h)

  open_stay : 1 < k → still_open (k ∷ st) ≡ (k - 1) ∷ st
  unfolding still_open
  open_stay h = simp (lt-leb k 1 h)

-- what the loop of `close` holds: what is left to write, written, is what there was to write
pub record Turn (st₀ out₀ : List ℕ) (to₀ : ℕ) (st out : List ℕ) (to : ℕ) : Type 0 where
  pub same : sets out to (closers st) ≡ sets out₀ to₀ (closers st₀)
  pub still : still_open st ≡ still_open st₀
  pub end : to + length (closers st) ≡ to₀ + length (closers st₀)

module _ (st₀ out₀ : List ℕ) (to₀ : ℕ) (held out : List ℕ) (to : ℕ)
    (turn : Turn st₀ out₀ to₀ (stack_of held) out to) where
  module _ (none : held ≡ []) where
    nothing : stack_of held ≡ []
    unfolding stack_of
    nothing = ap stack_of none

    pub end_stored : StoredAt (closers st₀) out₀ to₀ to out
    unfolding closers
    end_stored =
        let shut : closers (stack_of held) ≡ [] = ap closers nothing in
        (ap (sets out to) (sym shut) ∙ turn.same, omega (arith, turn.end, ap length shut))

    pub end_left : stack_of held ≡ still_open st₀
    unfolding still_open
    end_left = nothing ∙ sym (ap still_open nothing) ∙ turn.still

  module _ (held' : List ℕ) (k : ℕ) (popped : held ≡ held' ++ (k ∷ [])) where
    top : stack_of held ≡ k ∷ stack_of held'
    top = stack_push held' held k popped

    module _ (h : 1 < k) where
      none : closers (stack_of held) ≡ []
      none = ap closers top ∙ closers_stay k (stack_of held') h

      pub stop_stored : StoredAt (closers st₀) out₀ to₀ to out
      stop_stored = (ap (sets out to) (sym none) ∙ turn.same, omega (arith, turn.end, ap length none))

      pub stop_left : (held₁ : List ℕ) → held₁ ≡ held' ++ ((k - 1) ∷ []) → stack_of held₁ ≡ still_open st₀
      stop_left held₁ e =
          stack_push held' held₁ (k - 1) e ∙ sym (open_stay k (stack_of held') h) ∙ sym (ap still_open top) ∙ turn.still

    module _ (h : k ≤ 1) where
      both : closers (stack_of held) ≡ closer k ++ closers (stack_of held')
      both = ap closers top ∙ closers_shut k (stack_of held') h

      long : length (closers (stack_of held)) ≡ length (closer k) + length (closers (stack_of held'))
      long = ap length both ∙ length-append (closer k) (closers (stack_of held'))

      pub turn_room : to₀ + length (closers st₀) ≤ length out₀ → length out ≡ length out₀
          → to + length (closer k) ≤ length out
      turn_room room size = omega (arith, turn.end, long)

      pub turn_again : (out' : List ℕ) (to' : ℕ) → StoredAt (closer k) out to to' out'
          → Turn st₀ out₀ to₀ (stack_of held') out' to'
      turn_again out' to' s = record {
        same =
            (λ i. sets (s.0 i) (s.1 i) (closers (stack_of held')))
            ∙ sym (sets_append out to (closer k) (closers (stack_of held')))
            ∙ ap (sets out to) (sym both) ∙ turn.same;
        still = sym (ap still_open top ∙ open_shut k (stack_of held') h) ∙ turn.still;
        end = omega (arith, turn.end, s.1, long);
      }
