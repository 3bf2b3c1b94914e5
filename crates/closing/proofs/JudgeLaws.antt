-- Questions 3, 9 and 8, the fill and the answer: what each case of the code says of the outcome.
use Prim.Native.Nat.{ℕ, ◌+◌, ◌-◌, ◌≤◌, ◌<◌}
use mathlib.Core.Path.{◌≡◌, refl, sym, ap, ◌∙◌}
use mathlib.Core.List.{List}
use native.Mathlib.Omega.{arith}
use lib.ListN.{length}
use borrow.Author.Tests.{le-leb, lt-leb}
use Rattle.limits.specs.Limits.{types_room, code_max}
use Rattle.facts.specs.Sound.{Sound}
use Rattle.facts.specs.State.{Node, nodes, encode}
use Rattle.facts.proofs.Encode.{length_nodes}
use Rattle.facts.proofs.States.{sound_formed}
use Rattle.head.specs.declared.Head.{Head}
use Rattle.head.specs.Held.{Held, held, records_in, state_in, holding}
use Rattle.head.specs.Asked.{first_no}
use Rattle.head.specs.Admitting.{Admits}
use Rattle.head.proofs.Asking.{sound_asked, admitted_sound}
use Rattle.paths.specs.declared.lent.FactsMut.{FactsMut}
use Rattle.paths.specs.Lent.{Grows}
use Rattle.paths.proofs.Frame.{shaped_encode}
use Rattle.paths.proofs.Sounds.{held_sound}
use Rattle.kinds.specs.Fill.{fill}
use Rattle.kinds.specs.Missing.{fill_missing}
use Rattle.kinds.proofs.FillLaws.{length_fill}
use Rattle.kinds.proofs.KindSounds.{formed_fill}
use Rattle.closing.specs.Words.{Handed, fill_words, filled}
use Rattle.closing.specs.Answer.{Verdict, refused, answer_of, types_after}
use Rattle.closing.specs.Call.{closing_tests, tests_of, Outcome}
use Rattle.closing.proofs.Arriving.{refused_by}

module _ (N : ℕ) (head : Head) (table types : List ℕ) (h : Handed) (A : Admits (held head table) N) where
  abbrev t : Held
  t = held head table

  abbrev s : List Node
  s = state_in t

  S : Sound table head.used N
  S = admitted_sound t N A

  pub long_code : code_max < length h.code → Outcome t types h (refused 3) t types
  unfolding closing_tests
  long_code g = refused_by t types h N 3 A refl (rw (lt-leb (length h.code) code_max g) refl)

  module _ (c : length h.code ≤ code_max) where
    pub short_types : length types < types_room → Outcome t types h (refused 9) t types
    unfolding closing_tests
    short_types g =
        refused_by t types h N 9 A refl
        (rw (le-leb (length h.code) code_max c, lt-leb types_room (length types) g) refl)

    module _ (ts : types_room ≤ length types) (w m : ℕ) (e : w ≡ fill_words s h) (q : m ≡ fill_missing s w) where
      filled_is : fill s w ≡ filled s h
      unfolding filled
      filled_is = ap (fill s) e

      length_filled : length (filled s h) ≡ head.used + m
      length_filled =
          ap (λ (x : List Node). length x) (sym filled_is)
          ∙ length_fill s w
          ∙ (λ i. length_nodes table head.used i + sym q i)

      pub no_room : N - head.used < m → Outcome t types h (refused 8) t types
      unfolding closing_tests
      no_room g =
          let f = length_filled in
          let u = S.most in
          let n = A.is in
          refused_by t types h N 8 A refl
          (rw (
            le-leb (length h.code) code_max c,
            le-leb types_room (length types) ts,
            lt-leb (length (filled s h)) (records_in t) (omega arith),
          )
          refl)

      pub room_left : m ≤ N - head.used → head.used + fill_missing s w ≤ N
      room_left g = let u = S.most in omega arith

      module _ (g : m ≤ N - head.used) (f f' : FactsMut) (H : Grows f f' (fill s w)) (n : f.records ≡ N) where
        abbrev t' : List ℕ
        t' = f'.table.now

        abbrev u' : ℕ
        u' = f'.used

        pub sound_filled : Sound t' u' f'.records
        sound_filled =
            held_sound t' u' f'.records (fill s w) (record { shaped = f'.shaped; state = H.state })
            (formed_fill s w (sound_formed table head.used N S))

        abbrev head' : Head
        head' = record { used = u'; active = head.active }

        facts_are : nodes t' u' ≡ filled s h
        facts_are = H.state ∙ filled_is

        records_are : f'.records ≡ records_in t
        records_are = H.same.records ∙ n ∙ A.is

        left_is : (t'' : List ℕ) → t'' ≡ t' → held head' t'' ≡ holding (records_in t) head.active (filled s h)
        left_is t'' e = λ i. record {
          head = record {
            used = (sym (length_nodes t' u') ∙ ap (λ (x : List Node). length x) facts_are) i;
            active = head.active;
          };
          table = (e ∙ shaped_encode t' u' f'.records f'.shaped ∙ (λ j. encode (records_are j) (facts_are j))) i;
        }

        none_refuses : first_no (tests_of t h types) ≡ 0
        unfolding closing_tests
        none_refuses =
            let f = length_filled in
            let u = S.most in
            let n = A.is in
            rw (
              le-leb (length h.code) code_max c,
              le-leb types_room (length types) ts,
              le-leb (length (filled s h)) (records_in t) (omega arith),
            )
            refl

        pub answered : (v : Verdict) (t'' types' : List ℕ) → t'' ≡ t' → v ≡ answer_of (nodes t' u')
            → types' ≡ types_after (nodes t' u') types
            → Outcome t types h v (held head' t'') types'
        answered v t'' types' e a b = record {
          number = 0;
          asked = sound_asked t (tests_of t h types) N 0 A (sym none_refuses);
          answers = a ∙ ap answer_of facts_are;
          leaves = left_is t'' e;
          writes = b ∙ ap (λ (x : List Node). types_after x types) facts_are;
        }
