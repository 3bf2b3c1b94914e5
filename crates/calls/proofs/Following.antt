-- The table and the head that the calls leave are those of what is known from the calls alone.
use Prim.Native.Nat.{ℕ, ◌≤◌}
use mathlib.Core.Path.{◌≡◌, refl, sym, ap, subst, ◌∙◌}
use mathlib.Core.Bool.{Bool, true, false, cond}
use mathlib.Core.List.{List, [], ◌∷◌}
use native.Mathlib.Omega.{arith}
use lib.Dec.{eqb}
use lib.ListN.{length}
use borrow.Author.Tests.{eqb-true, leb-true}
use Rattle.limits.specs.Limits.{records_max}
use Rattle.limits.specs.Refusal.{taken}
use Rattle.facts.specs.Count.{Counted}
use Rattle.facts.specs.Formed.{Formed}
use Rattle.facts.specs.Sound.{Sound}
use Rattle.facts.specs.State.{Node, encode, root}
use Rattle.facts.proofs.Lone.{fresh_sound, fresh_state}
use Rattle.facts.proofs.States.{formed_state, formed_sound, sound_formed}
use Rattle.kinds.proofs.KindSounds.{formed_fill}
use Rattle.head.specs.Held.{Held, records_in, state_in, holding}
use Rattle.head.specs.Asked.{first_no, code_fits}
use Rattle.head.specs.Admitting.{Admits}
use Rattle.head.proofs.Asking.{sound_asked, sound_first}
use Rattle.labels.specs.Step.{step_of}
use Rattle.analyze.specs.Phases.{active_after}
use Rattle.analyze.specs.Analyze.{analyze}
use Rattle.step.specs.Questions.{step_tests}
use Rattle.step.specs.Call as step_call
use Rattle.calls.specs.Fits.{AreU32}
use Rattle.calls.proofs.Keeping.{step_formed}
use Rattle.closing.specs.Words.{Handed, fill_words, filled}
use Rattle.closing.specs.Answer.{Verdict, types_after}
use Rattle.closing.specs.Call as closing-call
use Rattle.calls.specs.Facts.{Call, step, closing, Known, start, machine_of, step_refusal, closing_refusal, stepped}
use Rattle.calls.specs.Facts.{closed, after, after_all}
use Rattle.calls.specs.Run.{Does, Run, held_of}

-- a fill keeps the facts formed, and a closing that is not refused had room for it
pub filled_formed : (s : List Node) (h : Handed) → Formed s → Formed (filled s h)
unfolding filled
filled_formed s h F = formed_fill s (fill_words s h) F

room_taken : (N : ℕ) (s : List Node) (h : Handed) (types : List ℕ)
    → first_no (closing-call.closing_tests N s h types) ≡ taken
    → length (filled s h) ≤ N
unfolding closing-call.closing_tests
room_taken N s h types e = go (code_fits h.code) (closing-call.types_fit types) (closing-call.room_there N s h) refl e
  where
    go : (a b c : Bool) → closing-call.room_there N s h ≡ c → ◌≡◌ {A = ℕ} (cond a (cond b (cond c 0 8) 9) 3) 0
        → length (filled s h) ≤ N
    go true true true q z = leb-true (length (filled s h)) N q
    go true true false q z = absurd (omega arith)
    go true false c q z = absurd (omega arith)
    go false b c q z = absurd (omega arith)

-- what is known meets question 2 and fits the table
pub record Good (N : ℕ) (k : Known) : Type 0 where
  pub formed : Formed k.state
  pub fits : length k.state ≤ N

module _ (N : ℕ) (N1 : 1 ≤ N) (NM : N ≤ records_max) where
  pub start_good : Good N start
  start_good = record { formed = rw (fresh_state N N1) at (sound_formed (encode N (root ∷ [])) 1 N (fresh_sound N N1)); fits = N1 }

  module _ (k : Known) (G : Good N k) where
    abbrev t : Held
    t = held_of N k

    pub state : state_in t ≡ k.state
    state = formed_state N k.state G.fits

    sound : Sound t.table t.head.used N
    sound = formed_sound N k.state G.fits G.formed

    counted : Counted (length t.table) N
    counted = record { is = sound.size; some = N1; most = NM }

    count_is : records_in t ≡ N
    count_is = let c = sound.size in omega arith

    active_most : t.head.active ≤ 1
    active_most = go k.active
      where
        go : (b : Bool) → cond b 1 0 ≤ 1
        go true = omega arith
        go false = omega arith

    active_is : eqb t.head.active 1 ≡ k.active
    active_is = go k.active
      where
        go : (b : Bool) → eqb (cond b 1 0) 1 ≡ b
        go true = refl
        go false = refl

    -- no call after the fresh one is refused by 1 or 2
    pub admitted : Admits t N
    admitted = record {
      is = sym count_is;
      counted = subst (Counted (length t.table)) (sym count_is) counted;
      sound = record { sound = subst (Sound t.table t.head.used) (sym count_is) sound; active = active_most };
    }

    -- a step
    module _ (bytes stack memory x : List ℕ) where
      abbrev lent : step_call.Lent
      lent = step_call.lend t stack memory

      abbrev refusal : ℕ
      refusal = step_refusal N k bytes stack memory x

      refusal_is : first_no (step_call.tests_of lent bytes x) ≡ refusal
      refusal_is = λ i.
          first_no (step_tests (count_is i) (record { state = state i; stack = stack; memory = memory }) (active_is i) bytes x)

      abbrev left : step_call.Lent
      left =
          step_call.left_by N (active_after k.active (step_of x)) (analyze (machine_of k stack memory) k.active bytes (step_of x))

      effect_is : step_call.effect lent bytes x ≡ left
      unfolding step_call.effect
      effect_is = λ i. step_call.left_by (count_is i) (active_after (active_is i) (step_of x))
          (analyze (record { state = state i; stack = stack; memory = memory }) (active_is i) bytes (step_of x))

      -- the questions are decided with the paths so far
      pub step_answers : (number : ℕ) (l : step_call.Lent) → step_call.Outcome lent bytes x number l → number ≡ refusal
      step_answers number l O =
          sound_first t (step_call.tests_of lent bytes x) admitted.counted admitted.sound number O.asked
          ∙ refusal_is

      step_held : (number : ℕ) (l : step_call.Lent) → step_call.Outcome lent bytes x number l → (h : AreU32 x)
          → l.held ≡ held_of N (after N k (step bytes stack memory x h))
      unfolding after
      step_held number l O h =
          let e = step_answers number l O in
          ap (λ (m : step_call.Lent). m.held) (O.leaves ∙ (λ i. cond (eqb (e i) taken) (effect_is i) lent))
          ∙ go (eqb refusal taken)
        where
          go : (b : Bool) → (cond b left lent).held ≡ held_of N (cond b (stepped k bytes stack memory x) k)
          go true = refl
          go false = refl

      pub step_good : (h : AreU32 x) → Good N (after N k (step bytes stack memory x h))
      unfolding after
      step_good h = go (eqb refusal taken) refl
        where
          go : (b : Bool) → eqb refusal taken ≡ b → Good N (cond b (stepped k bytes stack memory x) k)
          go true e =
              let F = step_formed N (machine_of k stack memory) k.active bytes x G.formed h (eqb-true refusal taken e) in
              record { formed = F.0; fits = F.1 }
          go false e = G

      step_there : (h : AreU32 x)
          → Does t (step bytes stack memory x h) (held_of N (after N k (step bytes stack memory x h)))
      step_there h =
          let n = first_no (step_call.tests_of lent bytes x) in
          let l = cond (eqb n taken) (step_call.effect lent bytes x) lent in
          let O : step_call.Outcome lent bytes x n l =
          record { asked = sound_asked t (step_call.tests_of lent bytes x) N n admitted refl; leaves = refl } in (
            n,
            l.stack,
            l.memory,
            subst (λ (z : Held). step_call.Outcome lent bytes x n (step_call.lend z l.stack l.memory))
                (step_held n l O h) O,
          )

    -- a closing
    module _ (h : Handed) (types : List ℕ) where
      abbrev refuses : ℕ
      refuses = closing_refusal N k h types

      pub closing_judged : (v : Verdict) (t' : Held) (types' : List ℕ) → closing-call.Outcome t types h v t' types'
          → (v ≡ closing-call.answer_by refuses (filled k.state h))
          × (t' ≡ cond (eqb refuses taken) (holding N t.head.active (filled k.state h)) t)
      closing_judged v t' types' O =
          let first =
          sound_first t (closing-call.tests_of t h types) admitted.counted admitted.sound O.number O.asked in
          let e : O.number ≡ refuses = first ∙ (λ i. first_no (closing-call.closing_tests (count_is i) (state i) h types)) in (
            O.answers ∙ (λ i. closing-call.answer_by (e i) (filled (state i) h)),
            O.leaves ∙ (λ i. cond (eqb (e i) taken) (holding (count_is i) t.head.active (filled (state i) h)) t),
          )

      closing_held : (v : Verdict) (t' : Held) (types' : List ℕ) → closing-call.Outcome t types h v t' types'
          → t' ≡ held_of N (after N k (closing h types))
      unfolding after
      closing_held v t' types' O =
          (closing_judged v t' types' O).1 ∙ go (eqb refuses taken)
        where
          go : (b : Bool)
              → cond b (holding N t.head.active (filled k.state h)) t ≡ held_of N (cond b (closed k h) k)
          go true = refl
          go false = refl

      pub closing_good : Good N (after N k (closing h types))
      unfolding after
      closing_good = go (eqb refuses taken) refl
        where
          go : (b : Bool) → eqb refuses taken ≡ b → Good N (cond b (closed k h) k)
          go true e = record {
            formed = filled_formed k.state h G.formed;
            fits = room_taken N k.state h types (eqb-true refuses taken e);
          }
          go false e = G

      closing_there : Does t (closing h types) (held_of N (after N k (closing h types)))
      closing_there =
          let n = first_no (closing-call.tests_of t h types) in
          let s = closing-call.state_after t h in
          let v = closing-call.answer_by n s in
          let t' = cond (eqb n taken) (holding (records_in t) t.head.active s) t in
          let types' = cond (eqb n taken) (types_after s types) types in
          let O : closing-call.Outcome t types h v t' types' = record {
            number = n;
            asked = sound_asked t (closing-call.tests_of t h types) N n admitted refl;
            answers = refl;
            leaves = refl;
            writes = refl;
          } in
          (v, types', subst (λ (z : Held). closing-call.Outcome t types h v z types') (closing_held v t' types' O) O)

    does_held : (c : Call) (m : Held) → Does t c m → m ≡ held_of N (after N k c)
    does_held (step bytes stack memory x h) m D =
        step_held bytes stack memory x D.0 (step_call.lend m D.1 D.2) D.3 h
    does_held (closing h types) m D = closing_held h types D.0 m D.1 D.2

    -- each call has an outcome, whatever it is handed
    does_there : (c : Call) → Does t c (held_of N (after N k c))
    does_there (step bytes stack memory x h) = step_there bytes stack memory x h
    does_there (closing h types) = closing_there h types

    after_good : (c : Call) → Good N (after N k c)
    after_good (step bytes stack memory x h) = step_good bytes stack memory x h
    after_good (closing h types) = closing_good h types

  -- a list of calls, from what is known before it
  pub run_held : (k : Known) → Good N k → (cs : List Call) (m : Held) → Run (held_of N k) cs m
      → (m ≡ held_of N (after_all N k cs)) × Good N (after_all N k cs)
  unfolding after_all
  run_held k G [] m R = (R, G)
  run_held k G (c ∷ cs) m R =
      run_held (after N k c) (after_good k G c) cs m
      (subst (λ (x : Held). Run x cs m) (does_held k G c R.0 R.1) R.2)

  pub run_there : (k : Known) → Good N k → (cs : List Call) → Run (held_of N k) cs (held_of N (after_all N k cs))
  unfolding after_all
  run_there k G [] = refl
  run_there k G (c ∷ cs) = (held_of N (after N k c), does_there k G c, run_there (after N k c) (after_good k G c) cs)
