-- A step that has passed questions 1 to 7: what its plan asks for, and question 8.
use Prim.Native.Nat.{ℕ}
use mathlib.Core.Path.{◌≡◌, refl, sym, ap, subst, ◌∙◌}
use mathlib.Core.Bool.{Bool, true, false, not, ◌&&◌}
use mathlib.Core.List.{List}
use lib.Dec.{leb}
use lib.ListN.{length}
use Rattle.facts.specs.State.{Node, nodes}
use Rattle.facts.proofs.Encode.{length_nodes}
use Rattle.paths.specs.Shape.{Shaped}
use Rattle.paths.specs.Order.{Ordered}
use Rattle.paths.proofs.Frame.{sound_shaped}
use Rattle.paths.proofs.Reach.{shaped_ordered}
use Rattle.opcode.specs.Lists.{listed, decoder_enders}
use Rattle.labels.specs.declared.Step.{Step}
use Rattle.labels.specs.Step.{step_of}
use Rattle.operations.specs.Run.{run_all}
use Rattle.operations.specs.Asks.{Reaches}
use Rattle.head.specs.declared.Head.{Head}
use Rattle.head.specs.Held.{held, records_in}
use Rattle.head.proofs.Asking.{admitted_sound}
use Rattle.analyze.specs.declared.Plan.{Plan}
use Rattle.analyze.specs.declared.Hints.{Hints}
use Rattle.analyze.specs.Plan.{operations}
use Rattle.analyze.specs.Phases.{hints_of, active_after}
use Rattle.analyze.specs.Analyze.{plan_of}
use Rattle.analyze.specs.Ready.{StepReaches, PlanReaches}
use Rattle.analyze.proofs.Plans.{plan_reaches}
use Rattle.analyze.proofs.Stepping.{analyze_room}
use Rattle.step.specs.Questions.{room_there, step_tests}
use Rattle.step.specs.Call.{Lent, lend, machine_of, is_active, Outcome}
use Rattle.step.specs.Decide.{Passed, Accepts}
use Rattle.step.proofs.Labelled.{step_reaches}
use Rattle.step.proofs.Arriving.{refused_by}

module _ (N : ℕ) (head : Head) (table stack memory bytes x : List ℕ) (P : Passed N (lend (held head table) stack memory) bytes x) where
  abbrev l : Lent
  l = lend (held head table) stack memory

  abbrev active : Bool
  active = is_active l

  abbrev state : List Node
  state = nodes table head.used

  pub passed_shaped : Shaped table head.used N
  passed_shaped = sound_shaped table head.used N (admitted_sound (held head table) N P.admitted)

  pub passed_ordered : Ordered state
  passed_ordered = shaped_ordered table head.used N passed_shaped

  pub passed_reaches : StepReaches head.used (step_of x)
  passed_reaches = step_reaches head.used stack memory x P.labels

  -- so many facts as used records
  pub facts_reach : StepReaches (length state) (step_of x)
  facts_reach = subst (λ (u : ℕ). StepReaches u (step_of x)) (sym (length_nodes table head.used)) passed_reaches

  pub passed_plan : PlanReaches head.used (plan_of state active bytes (step_of x))
  passed_plan =
      subst (λ (u : ℕ). PlanReaches u (plan_of state active bytes (step_of x))) (length_nodes table head.used)
      (plan_reaches state passed_ordered (step_of x) facts_reach active bytes)

  module _ (s : Step) (es : s ≡ step_of x) where
    pub plan_asks : StepReaches head.used s
    plan_asks = subst (λ (z : Step). StepReaches head.used z) (sym es) passed_reaches

    module _ (p : Plan) (ep : p ≡ plan_of state active bytes s) where
      plan_is : p ≡ plan_of state active bytes (step_of x)
      plan_is = ep ∙ ap (plan_of state active bytes) es

      pub room_asks : Reaches head.used p.first × Reaches head.used p.second × Reaches head.used p.third
      room_asks = let R = subst (PlanReaches head.used) (sym plan_is) passed_plan in (R.first, R.second, R.third)

      module _ (b : Bool) (room : b ≡ leb (length (run_all state (operations p))) N) where
        room_is : b ≡ room_there (records_in (held head table)) (machine_of l) active bytes x
        unfolding room_there
        room_is =
            room ∙ (λ i. leb (length (run_all state (operations (plan_is i)))) (P.admitted.is i))
            ∙ ap (λ (n : ℕ). leb n (records_in (held head table)))
            (sym (analyze_room (machine_of l) active bytes (step_of x)))

        pub no_room : b ≡ false → Outcome l bytes x 8 l
        unfolding step_tests
        no_room q =
            refused_by l bytes x N 8 P.admitted refl
            (simp (P.code, P.sizes, length_nodes table head.used, P.labels, P.fields, P.slot, sym room_is ∙ q))

        pub accepted : b ≡ true → (h : Hints) → h ≡ hints_of active s → (ends : Bool) → ends ≡ listed s.op decoder_enders
            → Accepts N l bytes x (record { hints = h; plan = p; active = active && not ends })
        unfolding active_after
        accepted q h eh ends ee = record {
          passed = P;
          room = sym room_is ∙ q;
          hints = eh ∙ ap (hints_of active) es;
          plan = plan_is;
          active = ap (λ (e : Bool). active && not e) (ee ∙ ap (λ (z : Step). listed z.op decoder_enders) es);
        }
