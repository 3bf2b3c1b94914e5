-- A step that is taken leaves formed facts, and so a sound table.
use Prim.Native.Nat.{ℕ, ◌≤◌}
use mathlib.Core.Path.{◌≡◌, refl, sym, subst}
use mathlib.Core.Bool.{Bool, true, false, cond}
use mathlib.Core.List.{List}
use native.Mathlib.Omega.{arith}
use lib.Dec.{eqb}
use lib.ListN.{length, get_or}
use borrow.Author.Tests.{leb-true, eqb-true}
use Rattle.limits.specs.Layout.{step_op}
use Rattle.facts.specs.State.{Node, encode}
use Rattle.facts.specs.Formed.{Formed}
use Rattle.facts.specs.Sound.{Sound}
use Rattle.facts.proofs.States.{sound_formed, sound_exactly}
use Rattle.labels.specs.Step.{step_of}
use Rattle.analyze.specs.Phases.{active_after}
use Rattle.analyze.specs.Analyze.{Machine, analyze}
use Rattle.analyze.proofs.Proper.{cond_has}
use Rattle.analyze.proofs.Stepping.{analyze_formed}
use Rattle.limits.specs.Refusal.{taken}
use Rattle.head.specs.Held.{records_in}
use Rattle.head.specs.Asked.{first_no, FirstNo, code_fits}
use Rattle.head.proofs.Asking.{taken_first}
use Rattle.step.specs.Questions.{sizes_fit, labels_fit, fields_fit, slot_there, room_there, step_tests}
use Rattle.step.specs.Call.{Lent, machine_of, is_active, effect, tests_of, questions, Outcome}
use Rattle.step.proofs.Labelled.{step_reaches}
use Rattle.calls.specs.Fits.{AreU32}
use Rattle.calls.proofs.Fitting.{step_fits}

-- what a step that is not refused has passed
record Unrefused (N : ℕ) (m : Machine) (active : Bool) (bytes x : List ℕ) : Type 0 where
  labels : labels_fit (length m.state) m.stack m.memory x ≡ true
  room : room_there N m active bytes x ≡ true

module _ (N : ℕ) (m : Machine) (active : Bool) (bytes x : List ℕ) where
  unrefused : first_no (step_tests N m active bytes x) ≡ taken → Unrefused N m active bytes x
  unfolding step_tests
  unrefused e =
      go (code_fits bytes) (sizes_fit m.stack m.memory x) (labels_fit (length m.state) m.stack m.memory x)
      (fields_fit m.memory x) (slot_there m.stack (get_or x step_op 0)) (room_there N m active bytes x) refl refl e
    where
      go : (a b c d f g : Bool) → labels_fit (length m.state) m.stack m.memory x ≡ c
          → room_there N m active bytes x ≡ g
          → cond {A = ℕ} a (cond b (cond c (cond d (cond f (cond g 0 8) 7) 6) 5) 4) 3 ≡ 0 → Unrefused N m active bytes x
      go true true true true true true p q z = record { labels = p; room = q }
      go true true true true true false p q z = absurd (omega arith)
      go true true true true false g p q z = absurd (omega arith)
      go true true true false f g p q z = absurd (omega arith)
      go true true false d f g p q z = absurd (omega arith)
      go true false c d f g p q z = absurd (omega arith)
      go false b c d f g p q z = absurd (omega arith)

  abbrev after : List Node
  after = (analyze m active bytes (step_of x)).state

  -- the machine m, with the facts of all used records
  pub step_formed : Formed m.state → AreU32 x → first_no (step_tests N m active bytes x) ≡ taken
      → Formed after × (length after ≤ N)
  unfolding room_there
  step_formed F h e =
      let t = unrefused e in (
        analyze_formed m active bytes (step_of x) F
            (step_reaches (length m.state) m.stack m.memory x t.labels) (step_fits x h),
        leb-true (length after) N t.room,
      )

-- the table of formed facts is sound
encoded_sound : (N : ℕ) (s : List Node) → Formed s → length s ≤ N → Sound (encode N s) (length s) N
encoded_sound N s F h =
    (sound_exactly (encode N s) (length s) N).1 (record { state = s; formed = F; paths = refl; fits = h; is = refl })

-- the table is sound with the records that the head says are used
abbrev SoundIn : ℕ → Lent → Type 0
SoundIn N l = Sound l.held.table l.held.head.used N

module _ (l : Lent) (bytes x : List ℕ) (h : AreU32 x) where
  -- question 2 holds of what a step that is taken leaves
  pub effect_sound : SoundIn (records_in l.held) l → first_no (tests_of l bytes x) ≡ taken
      → SoundIn (records_in l.held) (effect l bytes x)
  unfolding effect
  effect_sound S e =
      let F =
      step_formed (records_in l.held) (machine_of l) (is_active l) bytes x
      (sound_formed l.held.table l.held.head.used (records_in l.held) S) h e in
      encoded_sound (records_in l.held) (analyze (machine_of l) (is_active l) bytes (step_of x)).state F.0 F.1

  -- and of what any call leaves that found it so, refused or taken; the record count stays
  pub outcome_sound : (N number : ℕ) (l' : Lent) → Outcome l bytes x number l' → SoundIn N l → SoundIn N l'
  outcome_sound N number l' O S = subst (SoundIn N) (sym O.leaves) (go (eqb number taken) refl)
    where
      same : records_in l.held ≡ N
      same = let a = S.size in omega arith

      go : (b : Bool) → eqb number taken ≡ b → SoundIn N (cond b (effect l bytes x) l)
      go false z = S
      go true z =
          let asked = subst (FirstNo (questions l bytes x)) (eqb-true number 0 z) O.asked in
          let T = taken_first l.held (tests_of l bytes x) asked in
          subst (λ (k : ℕ). SoundIn k (effect l bytes x)) same (effect_sound T.1.sound T.2)

-- the decoder's flag stays 0 or 1
pub outcome_active : (l : Lent) (bytes x : List ℕ) (number : ℕ) (l' : Lent) → Outcome l bytes x number l'
    → l.held.head.active ≤ 1 → l'.held.head.active ≤ 1
unfolding effect
outcome_active l bytes x number l' O h =
    subst (λ (k : Lent). k.held.head.active ≤ 1) (sym O.leaves)
    (cond_has (λ (k : Lent). k.held.head.active ≤ 1) (eqb number taken) (effect l bytes x) l
    (cond_has (λ (n : ℕ). n ≤ 1) (active_after (is_active l) (step_of x)) 1 0 (omega arith) (omega arith)) h)
