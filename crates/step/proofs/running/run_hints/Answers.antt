use Rattle.operations.proofs.InTurn.{first_fits}
use Rattle.step.proofs.running.run_hints.Goals as goal

pub run-requires-clause-room : goal.run-requires-clause-room
run-requires-clause-room c = first_fits _ _ _ _ c.requires.room
