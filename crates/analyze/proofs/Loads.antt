-- The plans of CALLDATALOAD, CALLDATACOPY and ADD are proper.
use Prim.Native.Nat.{ℕ, ◌-◌, ◌/◌, ◌≤◌, ◌<◌, ◌^◌}
use mathlib.Core.Path.{◌≡◌, refl}
use mathlib.Core.Bool.{true}
use mathlib.Core.List.{List}
use native.Mathlib.Omega.{arith}
use lib.Dec.{eqb}
use Rattle.std.specs.Prelude.{Option, None, Some}
use Rattle.limits.specs.Codes as code
use Rattle.limits.specs.Confidences.{by_bytes}
use Rattle.limits.specs.Limits.{word_bytes, selector_bytes, dynamic_count_max}
use Rattle.word.specs.Value.{value_of}
use Rattle.facts.specs.State.{Node}
use Rattle.kinds.specs.Kinds.{arrays_in_path}
use Rattle.labels.specs.declared.Val.{Val}
use Rattle.labels.specs.declared.Label.{Label}
use Rattle.labels.specs.declared.Label.TheVariants.{Unlabelled, CallData, Arg, IsZeroResult}
use Rattle.labels.specs.declared.Step.{Step}
use Rattle.labels.specs.declared.Choice.{Choice}
use Rattle.labels.specs.Operands.{on_arg, choose}
use Rattle.operations.specs.declared.Operation.{Operation}
use Rattle.operations.specs.declared.Operation.TheVariants.{Nothing, GetOrCreate}
use Rattle.operations.specs.Asks.{IsUsed}
use Rattle.analyze.specs.declared.Plan.{Plan}
use Rattle.analyze.specs.Plan.{one_operation, two_operations, mark, name_as}
use Rattle.analyze.specs.Load.{is_whole_word, arrays_off, new_offset, to_stack, follow, name_copied, followed}
use Rattle.analyze.specs.Load.{labelled_load, is_followed, unlabelled_load, load}
use Rattle.analyze.specs.Sum.{add_both, add_one, add}
use Rattle.analyze.specs.Ready.{LabelReaches, ChoiceReaches, StepReaches}
use Rattle.analyze.proofs.Reach.{step_choice}
use Rattle.analyze.proofs.Given.{dynamic_bytes_name}
use Rattle.analyze.proofs.Proper.{LabelFits, Allowed, Proper, cond_has, cond_given, arg_has, may_none, may_mark}
use Rattle.analyze.proofs.Proper.{may_name, proper_three, proper_one, proper_none, proper_stack, proper_memory}
use Rattle.analyze.proofs.Proper.{proper_mark}

-- a count of words in 32 bits
count_most : (s : List Node) (v : Val) → v.add_val < 2 ^ 32 → new_offset s v / word_bytes ≤ dynamic_count_max
unfolding new_offset
count_most s v h = most v.add_val (arrays_off (arrays_in_path s v.path) v.add_val) h
  where
    most : (added off : ℕ) → added < 2 ^ 32 → (added - selector_bytes - off) / word_bytes ≤ dynamic_count_max
    most added off l = omega arith

module _ (u : ℕ) (some : 1 ≤ u) (Fits Slot : Type 0) (x : Step) where
  abbrev P : Plan → Type 0
  P p = Proper u Fits Slot x.pick p

  -- a load to the stack has a slot
  module _ (slot : to_stack x ≡ true → Slot) where
    proper_followed : (s : List Node) (v : Val) → IsUsed u v.path → (Fits → v.add_val < 2 ^ 32)
        → P (followed x v (new_offset s v))
    proper_followed s v U h =
        cond_given P (to_stack x) _ _
        (λ e. proper_stack (one_operation (follow v (new_offset s v))) _ (slot e) (proper_one _ followed_may))
        (λ e.
        proper_memory (two_operations (follow v (new_offset s v)) (name_copied x.pick v)) _ refl
        (proper_three _ _ Nothing followed_may
        (cond_has (λ o. Allowed u Fits o) (eqb x.pick 0) Nothing (name_as v code.bytes by_bytes) may_none
        (may_name v code.bytes by_bytes U dynamic_bytes_name (omega arith) (omega arith)))
        may_none))
      where
        followed_may : Allowed u Fits (follow v (new_offset s v))
        followed_may = record { reaches = U; stores = λ f. count_most s v (h f) }

    proper_unlabelled : (offset : ℕ) → P (unlabelled_load x offset)
    unfolding unlabelled_load
    proper_unlabelled offset =
        cond_has P (is_followed offset) _ _
        (cond_given P (to_stack x) _ _
        (λ e. proper_stack (one_operation created) _ (slot e) (proper_one created may_create))
        (λ e. proper_memory (one_operation created) _ refl (proper_one created may_create)))
        proper_none
      where
        created : Operation
        created = GetOrCreate 1 (offset - selector_bytes)

        may_create : Allowed u Fits created
        may_create = record { reaches = record { from = omega arith; to = some }; stores = λ f. tt }

    pub proper_load : (s : List Node) → StepReaches u x → (Fits → LabelFits x.first.label) → P (load s x)
    unfolding load labelled_load
    proper_load s R F = go x.first.label R.first F
      where
        plain : P (unlabelled_load x (value_of x.first.word))
        plain = proper_unlabelled (value_of x.first.word)

        go : (l : Label) → LabelReaches u l → (Fits → LabelFits l)
            → P (on_arg l (λ v. labelled_load s x v) (unlabelled_load x (value_of x.first.word)))
        go Unlabelled L h = plain
        go CallData L h = plain
        go (Arg v) L h = cond_has P (is_whole_word v.add_val) _ _ (proper_followed s v L h) proper_none
        go (IsZeroResult v) L h = plain

  -- ADD
  proper_add_one : (k : Option Choice) → ChoiceReaches u k → Slot → P (add_one k)
  proper_add_one None K slot = proper_none
  proper_add_one (Some k) K slot = proper_stack (one_operation (mark k.val)) _ slot (proper_mark k.val K.0)

  proper_add_both : (s : List Node) (f g : Val) → IsUsed u f.path → IsUsed u g.path → Slot → P (add_both s f g)
  unfolding add_both
  proper_add_both s f g F G slot =
      proper_stack (two_operations (mark f) (mark g)) _ slot
      (proper_three (mark f) (mark g) Nothing (may_mark f F) (may_mark g G) may_none)

  pub proper_add : (s : List Node) → StepReaches u x → Slot → P (add s x)
  unfolding add
  proper_add s R slot =
      arg_has P u x.first.label _ _ R.first
      (λ f F. arg_has P u x.second.label _ _ R.second (λ g G. proper_add_both s f g F G slot) lone) lone
    where
      lone : P (add_one (choose (λ v. true) x.first x.second))
      lone = proper_add_one (choose (λ v. true) x.first x.second) (step_choice u x (λ v. true) R) slot
