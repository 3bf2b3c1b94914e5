use Rattle.step.proofs.Refusing.{fit_width, fit_op}
use Rattle.step.proofs.Planning.{plan_asks, room_asks, no_room, accepted}
use Rattle.step.proofs.deciding.plan_step.Goals as goal

pub read_step-step-requires-clause-s_len : goal.read_step-step-requires-clause-s_len
read_step-step-requires-clause-s_len c = fit_width _ _ _ c.requires.sizes

pub read_step-step-requires-clause-step_op_bound : goal.read_step-step-requires-clause-step_op_bound
read_step-step-requires-clause-step_op_bound c = fit_op _ _ c.requires.fields

pub plan_of-plan-requires-clause-reaches : goal.plan_of-plan-requires-clause-reaches
plan_of-plan-requires-clause-reaches c = plan_asks _ _ _ _ _ _ _ c.requires _ c.read_step-step.ensures

pub has_room-requires : goal.has_room-requires
has_room-requires c = room_asks _ _ _ _ _ _ _ c.requires _ c.read_step-step.ensures _ c.plan_of-plan.ensures

pub returns-then-not-has_room : goal.returns-then-not-has_room
returns-then-not-has_room c =
    no_room _ _ _ _ _ _ _ c.requires _ c.read_step-step.ensures _ c.plan_of-plan.ensures _ c.has_room.ensures c.if-not-has_room.true

pub returns : goal.returns
returns c =
    accepted _ _ _ _ _ _ _ c.requires _ c.read_step-step.ensures _ c.plan_of-plan.ensures _ c.has_room.ensures c.if-not-has_room.false _
    c.hints_of.ensures _ c.ends_decoder.ensures
