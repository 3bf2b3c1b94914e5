use Rattle.std.proofs.Common.{refl, rules, arith}
use Rattle.paths.proofs.Frame.{sound_shaped}
use Rattle.head.proofs.Asking.{admitted_sound}
use Rattle.step.proofs.Taking.{hints_reach_lem, hints_room, plan_reach, plan_room, stack_asks, memory_asks, taken}
use Rattle.step.proofs.arrive.take.Goals as goal

pub invariant_of-read : goal.invariant_of-read
invariant_of-read c = record {
  shaped = sound_shaped _ _ _ (admitted_sound _ _ c.in_ok-records.ensures);
  fits = omega arith;
}

pub invariant_of-facts-clause-shaped : goal.invariant_of-facts-clause-shaped
invariant_of-facts-clause-shaped c = sound_shaped _ _ _ (admitted_sound _ _ c.in_ok-records.ensures)

pub run_hints-requires-clause-reach : goal.run_hints-requires-clause-reach
run_hints-requires-clause-reach c = hints_reach_lem _ _ _ _ _ _ _ _ c.in_ok-planned.ensures

pub run_hints-requires-clause-room : goal.run_hints-requires-clause-room
run_hints-requires-clause-room c = hints_room _ _ _ _ _ _ _ _ c.in_ok-planned.ensures

pub run_plan-ran-requires-clause-reach : goal.run_plan-ran-requires-clause-reach
run_plan-ran-requires-clause-reach c = plan_reach _ _ _ _ _ _ _ _ c.in_ok-planned.ensures _ _ c.run_hints.ensures refl

pub run_plan-ran-requires-clause-room : goal.run_plan-ran-requires-clause-room
run_plan-ran-requires-clause-room c = plan_room _ _ _ _ _ _ _ _ c.in_ok-planned.ensures _ _ c.run_hints.ensures refl

pub write_stack-requires : goal.write_stack-requires
write_stack-requires c = stack_asks _ _ _ _ _ _ _ _ c.in_ok-planned.ensures _ _ c.run_hints.ensures refl

pub write_memory-requires : goal.write_memory-requires
write_memory-requires c = memory_asks _ _ _ _ _ _ _ _ c.in_ok-planned.ensures _ _ c.run_hints.ensures refl

pub returns : goal.returns
returns c =
    taken _ _ _ _ _ _ _ _ c.in_ok-planned.ensures _ _ c.run_hints.ensures refl _ _ c.run_plan-ran.ensures _ _ _ _ (search rules) c.write_stack.ensures
    c.write_memory.ensures (search rules)
