-- The facts after a whole step: formed if they were, none lost, and as many as the plan on the facts before the step
-- comes to, so that question 8 can be asked of these.
use Prim.Native.Nat.{ℕ, ◌+◌, ◌≤◌}
use mathlib.Core.Path.{◌≡◌, refl, sym, ap, subst, ◌∙◌}
use mathlib.Core.Bool.{Bool, cond, ◌||◌}
use mathlib.Core.List.{List}
use native.Mathlib.Omega.{arith}
use lib.ListN.{length}
use Rattle.std.specs.Prelude.{Option, None, Some}
use Rattle.facts.specs.State.{Node, node_of}
use Rattle.facts.specs.Formed.{Formed}
use Rattle.paths.proofs.Adds.{same_missing}
use Rattle.paths.proofs.Sounds.{formed_ordered}
use Rattle.labels.specs.declared.Step.{Step}
use Rattle.operations.specs.declared.FullPath.{FullPath}
use Rattle.operations.specs.declared.Operation.{Operation}
use Rattle.operations.specs.Run.{run, run_all}
use Rattle.operations.specs.Asks.{Reaches, makes, same, lacks}
use Rattle.operations.proofs.Sizes.{added_by, three_size}
use Rattle.operations.proofs.Lists.{Each, run_all_grows}
use Rattle.operations.proofs.Keeping.{run_all_formed}
use Rattle.operations.proofs.Clears.{Clears, clear_same, clear_size, clear_parent}
use Rattle.analyze.specs.declared.Plan.{Plan}
use Rattle.analyze.specs.declared.Hints.{Hints}
use Rattle.analyze.specs.Plan.{hint_operations, operations}
use Rattle.analyze.specs.Phases.{hints_of}
use Rattle.analyze.specs.Analyze.{Machine, plan_of, hinted, run_plan, analyze}
use Rattle.analyze.specs.Ready.{StepReaches, PlanReaches}
use Rattle.analyze.proofs.Proper.{StepFits}
use Rattle.analyze.proofs.Phasing.{hints_clear, hints_reach, clears_stores}
use Rattle.analyze.proofs.Plans.{plan_reaches, plan_stores}
use Rattle.analyze.proofs.Hinted.{hinted_plan}

-- a path lacks what it did where hints are cleared
clear_lacks : (s : List Node) (o : Operation) → Clears o → (f : Option FullPath) → lacks (run s o) f ≡ lacks s f
unfolding lacks
clear_lacks s o C None = refl
clear_lacks s o C (Some f) = same_missing s (run s o) (clear_same s o C) f.path f.offset

-- the facts s, and after the first phase
module _ (s : List Node) (active : Bool) (x : Step) where
  abbrev h : Hints
  h = hints_of active x

  pub hinted_size : length (hinted s active x) ≡ length s
  unfolding run_all
  hinted_size =
      let C = hints_clear active x in
      clear_size (run s h.first) h.second C.second ∙ clear_size s h.first C.first

  pub hinted_lacks : (f : Option FullPath) → lacks (hinted s active x) f ≡ lacks s f
  unfolding run_all
  hinted_lacks f =
      let C = hints_clear active x in
      clear_lacks (run s h.first) h.second C.second f ∙ clear_lacks s h.first C.first f

  pub hinted_parent : (r : ℕ) → (node_of (hinted s active x) r).parent ≡ (node_of s r).parent
  unfolding run_all
  hinted_parent r =
      let C = hints_clear active x in
      clear_parent (run s h.first) h.second C.second r ∙ clear_parent s h.first C.first r

  pub hinted_formed : Formed s → StepReaches (length s) x → Formed (hinted s active x)
  hinted_formed F R =
      let C = hints_clear active x in
      let H = hints_reach (length s) active x R in
      run_all_formed s (hint_operations h) F (H.first, (H.second, tt))
      (clears_stores h.first C.first, (clears_stores h.second C.second, tt))

-- the operations of a plan, as a list
plan_each : (u : ℕ) (p : Plan) → PlanReaches u p → Each (Reaches u) (operations p)
plan_each u p R = (R.first, (R.second, (R.third, tt)))

module _ (m : Machine) (active : Bool) (bytes : List ℕ) (x : Step) where
  abbrev before : List Node
  before = m.state

  abbrev cleared : List Node
  cleared = hinted before active x

  abbrev plan : Plan
  plan = plan_of before active bytes x

  -- the step runs the plan that is made of the facts before it
  pub analyze_facts : (analyze m active bytes x).state ≡ run_all cleared (operations plan)
  unfolding analyze run_plan
  analyze_facts = ap (λ (p : Plan). run_all cleared (operations p)) (hinted_plan before active bytes x)

  -- how many records the plan comes to, on any facts
  size : (s : List Node) → length (run_all s (operations plan))
      ≡ length s + added_by s (makes plan.first) (makes plan.second) (makes plan.third)
  size s = three_size s plan.first plan.second plan.third

  -- question 8's count, on the facts before the step
  pub analyze_room : length (analyze m active bytes x).state ≡ length (run_all before (operations plan))
  analyze_room =
      let f = makes plan.first in
      let g = makes plan.second in
      let k = makes plan.third in
      let lack = hinted_lacks before active x in
      let added : added_by cleared f g k ≡ added_by before f g k =
      λ i. lack f i + cond (same f g) 0 (lack g i) + cond (same f k || same g k) 0 (lack k i) in
      ap length analyze_facts ∙ size cleared ∙ (λ i. hinted_size before active x i + added i) ∙ sym (size before)

  -- no record is lost
  pub analyze_grows : length before ≤ length (analyze m active bytes x).state
  analyze_grows = let e = analyze_room in let g = run_all_grows before (operations plan) in omega arith

  -- question 2, said of nodes, holds of what a step leaves
  pub analyze_formed : Formed before → StepReaches (length before) x → StepFits x
      → Formed (analyze m active bytes x).state
  analyze_formed F R fits =
      let O = formed_ordered before F in
      let T = plan_stores before O x R fits active bytes in
      let Q = subst (λ (u : ℕ). PlanReaches u plan) (sym (hinted_size before active x))
      (plan_reaches before O x R active bytes) in
      subst Formed (sym analyze_facts)
      (run_all_formed cleared (operations plan) (hinted_formed before active x F R) (plan_each (length cleared) plan Q)
      (T.first, (T.second, (T.third, tt))))
