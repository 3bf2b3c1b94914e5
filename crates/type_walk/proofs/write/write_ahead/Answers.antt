use Rattle.std.proofs.Common.{arith, refl, sym, ◌∙◌}
use Rattle.type_walk.proofs.LeafLaws.{leaf_small}
use Rattle.type_walk.proofs.FactLaws.{leaf_fits, leaf_led, first_fits, second_fits, plan_fits, plan_led}
use Rattle.type_walk.proofs.write.write_ahead.Goals as goal

pub overflow_cast-types : goal.overflow_cast-types
overflow_cast-types c =
    let h = leaf_small _ _ _ _ c.requires.sound c.requires.le_c.0 c.requires.le_c.1 _ (sym c.in-Some.is ∙ c.leaf_code.ensures) in omega arith

pub bounds-types-at : goal.bounds-types-at
bounds-types-at c =
    let l = c.requires.types_room_in_bounds in
    let h = leaf_fits c.requires.sound c.requires.le_c.0 c.requires.le_c.1 c.args.types.now _ c.requires.c_bound l c.leaf_code.ensures c.in-Some.is in omega arith

pub returns-in-Some : goal.returns-in-Some
returns-in-Some c =
    leaf_led c.requires.sound c.requires.le_c.0 c.requires.le_c.1 c.args.types.now _ c.requires.c_bound c.requires.types_room_in_bounds
    c.leaf_code.ensures c.in-Some.is refl refl refl

pub put_plan-requires-clause-first_bound : goal.put_plan-requires-clause-first_bound
put_plan-requires-clause-first_bound c =
    first_fits c.requires.sound c.requires.le_c.0 c.requires.le_c.1 c.args.types.now _ c.requires.c_bound c.requires.types_room_in_bounds
    c.leaf_code.ensures c.in-None.is c.plan_of-plan.ensures

pub put_plan-requires-clause-second_bound : goal.put_plan-requires-clause-second_bound
put_plan-requires-clause-second_bound c =
    second_fits c.requires.sound c.requires.le_c.0 c.requires.le_c.1 c.args.types.now _ c.requires.c_bound c.requires.types_room_in_bounds
    c.leaf_code.ensures c.in-None.is c.plan_of-plan.ensures

pub put_plan-requires-clause-plan_in_bounds : goal.put_plan-requires-clause-plan_in_bounds
put_plan-requires-clause-plan_in_bounds c =
    plan_fits c.requires.sound c.requires.le_c.0 c.requires.le_c.1 c.args.types.now _ c.requires.c_bound c.requires.types_room_in_bounds
    c.leaf_code.ensures c.in-None.is c.plan_of-plan.ensures

pub returns-in-None : goal.returns-in-None
returns-in-None c =
    plan_led c.requires.sound c.requires.le_c.0 c.requires.le_c.1 c.args.types.now _ c.requires.c_bound c.requires.types_room_in_bounds
    c.leaf_code.ensures c.in-None.is c.plan_of-plan.ensures c.put_plan.ensures.0 c.put_plan.ensures.1 refl refl
