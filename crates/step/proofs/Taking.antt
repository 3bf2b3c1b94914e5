-- A step that was accepted: what its run and its writing ask for, and that its effect is that of `analyze`.
use Prim.Native.Nat.{ℕ, ◌*◌, ◌≤◌}
use mathlib.Core.Path.{◌≡◌, refl, sym, ap, subst, ◌∙◌}
use mathlib.Core.Bool.{Bool, true, cond, not, ◌||◌}
use mathlib.Core.List.{List}
use mathlib.Core.Logic.{⊎_elim}
use native.Mathlib.Omega.{arith}
use lib.Dec.{leb}
use lib.ListN.{length, get_or}
use borrow.Author.Tests.{leb-true}
use Rattle.limits.specs.Layout.{slot_width, entry_width, step_op, step_pick}
use Rattle.facts.specs.State.{Node, nodes, encode}
use Rattle.facts.proofs.Encode.{length_nodes}
use Rattle.paths.specs.declared.lent.FactsMut.{FactsMut}
use Rattle.paths.specs.Lent.{facts_in, Grows}
use Rattle.paths.proofs.Frame.{shaped_encode}
use Rattle.opcode.specs.Lists.{listed, slot_needers}
use Rattle.labels.specs.Step.{step_of}
use Rattle.operations.specs.Run.{run_all}
use Rattle.head.specs.declared.Head.{Head}
use Rattle.head.specs.Held.{held, records_in}
use Rattle.head.proofs.Asking.{sound_asked}
use Rattle.analyze.specs.declared.OnStack.{OnStack}
use Rattle.analyze.specs.declared.OnStack.TheVariants as stack
use Rattle.analyze.specs.declared.InMemory.{InMemory}
use Rattle.analyze.specs.declared.InMemory.TheVariants as memory
use Rattle.analyze.specs.declared.Plan.{Plan}
use Rattle.analyze.specs.declared.Hints.{Hints}
use Rattle.analyze.specs.Plan.{hint_operations, operations, loaded_path, is_array, write_stack, write_memory}
use Rattle.analyze.specs.Phases.{active_after}
use Rattle.analyze.specs.Analyze.{Machine, hinted, run_plan, analyze}
use Rattle.analyze.specs.Ready.{HintsReach, PlanReaches}
use Rattle.analyze.proofs.Proper.{Picks}
use Rattle.analyze.proofs.Phasing.{hints_reach}
use Rattle.analyze.proofs.Writes.{plan_stack, plan_picks}
use Rattle.analyze.proofs.Hinted.{hinted_plan}
use Rattle.analyze.proofs.Stepping.{hinted_size, analyze_facts}
use Rattle.step.specs.declared.Ran.{Ran}
use Rattle.step.specs.declared.Planned.{Planned}
use Rattle.step.specs.Questions.{room_there, slot_there, step_tests}
use Rattle.step.specs.Call.{Lent, lend, machine_of, is_active, effect, tests_of, Outcome}
use Rattle.step.specs.Decide.{RanPlan, StackFits, MemoryFits, Accepts}
use Rattle.step.proofs.Refusing.{fit_pick}
use Rattle.step.proofs.Planning.{passed_shaped, passed_ordered, facts_reach, passed_reaches, passed_plan}

slot_needed : (s : List ℕ) (op : ℕ) → slot_there s op ≡ true → listed op slot_needers ≡ true → slot_width ≤ length s
unfolding slot_there
slot_needed s op e n = leb-true slot_width (length s) (ap (λ (z : Bool). not z || leb slot_width (length s)) (sym n) ∙ e)

-- a write that is kept, or a slot
stack_fits : (w : OnStack) (s : List ℕ) → slot_width ≤ length s → StackFits w s
stack_fits stack.Keep s h = tt
stack_fits (stack.Word n) s h = h
stack_fits (stack.Label l) s h = h
stack_fits (stack.WordLabel n l) s h = h
stack_fits (stack.Loaded offset) s h = h
stack_fits (stack.Ones marked word) s h = h

memory_fits : (w : InMemory) (s : List ℕ) (pick : ℕ) → Picks pick w → pick * entry_width ≤ length s → MemoryFits w s
memory_fits memory.Keep s pick P h = tt
memory_fits (memory.Label p l) s pick P h = rw P h
memory_fits (memory.Loaded p offset) s pick P h = rw P h
memory_fits (memory.Ones marked) s pick P h = tt

op_is : (x : List ℕ) → (step_of x).op ≡ get_or x step_op 0
unfolding step_of
op_is x = refl

pick_is : (x : List ℕ) → (step_of x).pick ≡ get_or x step_pick 0
unfolding step_of
pick_is x = refl

module _ (N : ℕ) (head : Head) (table stack memory bytes x : List ℕ) (p : Planned)
    (A : Accepts N (lend (held head table) stack memory) bytes x p) where
  abbrev l : Lent
  l = lend (held head table) stack memory

  abbrev active : Bool
  active = is_active l

  abbrev state : List Node
  state = nodes table head.used

  abbrev after : Machine
  after = analyze (machine_of l) active bytes (step_of x)

  -- the facts after the hints, which no decision looks at
  abbrev cleared : List Node
  cleared = hinted state active (step_of x)

  cleared_is : run_all state (hint_operations p.hints) ≡ cleared
  cleared_is = ap (λ (h : Hints). run_all state (hint_operations h)) A.hints

  cleared_size : length (run_all state (hint_operations p.hints)) ≡ head.used
  cleared_size = ap (λ (s : List Node). length s) cleared_is ∙ hinted_size state active (step_of x) ∙ length_nodes table head.used

  pub hints_reach_lem : HintsReach head.used p.hints
  hints_reach_lem =
      subst (HintsReach head.used) (sym A.hints)
      (hints_reach head.used active (step_of x) (passed_reaches N head table stack memory bytes x A.passed))

  pub hints_room : length (run_all state (hint_operations p.hints)) ≤ N
  hints_room =
      let m = (passed_shaped N head table stack memory bytes x A.passed).most in let e = cleared_size in omega arith

  facts_after : after.state ≡ run_all cleared (operations p.plan)
  facts_after = analyze_facts (machine_of l) active bytes (step_of x) ∙ ap (λ (q : Plan). run_all cleared (operations q)) (sym A.plan)

  fits_after : length after.state ≤ N
  unfolding room_there
  fits_after = let h = leb-true (length after.state) (records_in (held head table)) A.room in let e = A.passed.admitted.is in omega arith

  -- the hints cleared
  module _ (f f₁ : FactsMut) (H : Grows f f₁ (run_all state (hint_operations p.hints))) (records_are : f.records ≡ N) where
    used_same : f₁.used ≡ head.used
    used_same = sym (length_nodes f₁.table.now f₁.used) ∙ ap (λ (s : List Node). length s) H.state ∙ cleared_size

    state_is : facts_in f₁ ≡ cleared
    state_is = H.state ∙ cleared_is

    pub plan_reach : PlanReaches f₁.used p.plan
    plan_reach =
        subst (λ (u : ℕ). PlanReaches u p.plan) (sym used_same)
        (subst (PlanReaches head.used) (sym A.plan) (passed_plan N head table stack memory bytes x A.passed))

    pub plan_room : length (run_all (facts_in f₁) (operations p.plan)) ≤ f₁.records
    plan_room =
        let e = ap (λ (s : List Node). length (run_all s (operations p.plan))) state_is in
        let g = ap (λ (s : List Node). length s) facts_after in
        let h = fits_after in
        let r = H.same.records in let n = records_are in
        omega arith

    -- what is written has its slot and its entry
    pub stack_asks : StackFits p.plan.stack stack
    stack_asks =
        ⊎_elim (λ k. subst (λ (w : OnStack). StackFits w stack) (sym (ap (λ (q : Plan). q.stack) A.plan ∙ k)) tt)
        (λ n. stack_fits p.plan.stack stack
        (slot_needed stack (get_or x step_op 0) A.passed.slot (ap (λ (o : ℕ). listed o slot_needers) (sym (op_is x)) ∙ n)))
        (plan_stack state (passed_ordered N head table stack memory bytes x A.passed) (step_of x)
        (facts_reach N head table stack memory bytes x A.passed) active bytes)

    pub memory_asks : MemoryFits p.plan.memory memory
    memory_asks =
        let k = plan_picks state (passed_ordered N head table stack memory bytes x A.passed) (step_of x)
        (facts_reach N head table stack memory bytes x A.passed) active bytes in
        let h = fit_pick memory x A.passed.fields in
        let e = pick_is x in
        memory_fits p.plan.memory memory (step_of x).pick
        (subst (λ (q : Plan). Picks (step_of x).pick q.memory) (sym A.plan) k) (omega arith)

    module _ (f₂ : FactsMut) (r : Ran) (Q : RanPlan f₁ f₂ p.plan r) where
      abbrev left : Machine
      left = run_plan cleared p.plan stack memory

      -- what the plan leaves is what `analyze` does
      left_is : left ≡ after
      unfolding analyze
      left_is = ap (λ (q : Plan). run_plan cleared q stack memory) (A.plan ∙ sym (hinted_plan state active bytes (step_of x)))

      facts_left : facts_in f₂ ≡ left.state
      unfolding run_plan
      facts_left = Q.grows.state ∙ ap (λ (s : List Node). run_all s (operations p.plan)) state_is

      path_is : r.path ≡ loaded_path cleared p.plan.first
      path_is = Q.path ∙ ap (λ (s : List Node). loaded_path s p.plan.first) state_is

      array_is : r.array ≡ is_array (run_all cleared (operations p.plan)) (loaded_path cleared p.plan.first)
      array_is = Q.array ∙ (λ i. is_array (run_all (state_is i) (operations p.plan)) (path_is i))

      module _ (table' stack' memory' : List ℕ) (active' : ℕ) (et : table' ≡ f₂.table.now) (es : stack' ≡ write_stack p.plan.stack r.path r.array stack)
          (em : memory' ≡ write_memory p.plan.memory r.path r.array memory) (ea : active' ≡ cond p.active 1 0) where
        abbrev l' : Lent
        l' = lend (held (record { used = f₂.used; active = active' }) table') stack' memory'

        stack_left : stack' ≡ left.stack
        unfolding run_plan
        stack_left = es ∙ (λ i. write_stack p.plan.stack (path_is i) (array_is i) stack)

        memory_left : memory' ≡ left.memory
        unfolding run_plan
        memory_left = em ∙ (λ i. write_memory p.plan.memory (path_is i) (array_is i) memory)

        effect_is : l' ≡ effect l bytes x
        unfolding effect
        effect_is = λ i. record {
          held = record { head = record { used = u i; active = a i }; table = t i };
          stack = (stack_left ∙ ap (λ (m : Machine). m.stack) left_is) i;
          memory = (memory_left ∙ ap (λ (m : Machine). m.memory) left_is) i;
        }
          where
            k : facts_in f₂ ≡ after.state
            k = facts_left ∙ ap (λ (m : Machine). m.state) left_is

            u : f₂.used ≡ length after.state
            u = sym (length_nodes f₂.table.now f₂.used) ∙ ap (λ (s : List Node). length s) k

            a : active' ≡ cond (active_after active (step_of x)) 1 0
            a = ea ∙ ap (λ (b : Bool). cond b 1 0) A.active

            n : f₂.records ≡ records_in (held head table)
            n = Q.grows.same.records ∙ H.same.records ∙ records_are ∙ A.passed.admitted.is

            t : table' ≡ encode (records_in (held head table)) after.state
            t = et ∙ shaped_encode f₂.table.now f₂.used f₂.records f₂.shaped ∙ (λ i. encode (n i) (k i))

        pub taken : Outcome l bytes x 0 l'
        unfolding step_tests
        taken = record {
          asked =
              let P = A.passed in
              sound_asked l.held (tests_of l bytes x) N 0 P.admitted
              (sym (simp (P.code, P.sizes, length_nodes table head.used, P.labels, P.fields, P.slot, A.room)));
          leaves = effect_is;
        }
