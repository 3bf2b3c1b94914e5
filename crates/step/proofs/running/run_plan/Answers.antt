use Rattle.std.proofs.Common.{[], ◌∷◌, ◌≤◌, length, arith}
use Rattle.operations.specs.Run.{run_all}
use Rattle.operations.proofs.InTurn.{first_fits, next_fits}
use Rattle.paths.specs.Lent.{facts_in}
use Rattle.step.proofs.running.run_plan.Goals as goal

pub run_first-path-requires-clause-room : goal.run_first-path-requires-clause-room
run_first-path-requires-clause-room c = first_fits _ _ _ _ c.requires.room

pub run-requires-clause-room : goal.run-requires-clause-room
run-requires-clause-room c =
    let G = c.run_first-path.ensures.grows in
    let f = c.run_first-path.new.facts in
    let room : length (run_all (facts_in f) (c.args.plan.second ∷ c.args.plan.third ∷ [])) ≤ c.args.facts.now.records =
    next_fits _ _ _ _ _ G.state c.requires.room in
    let all : length (run_all (facts_in f) (c.args.plan.second ∷ c.args.plan.third ∷ [])) ≤ f.records =
    (let r = G.same.records in omega arith) in
    first_fits _ _ _ _ all
