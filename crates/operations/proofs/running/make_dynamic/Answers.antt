use Rattle.paths.specs.Make.{Made}
use Rattle.paths.proofs.Lending.{makes_then}
use Rattle.kinds.specs.Kinds.{set_dynamic}
use Rattle.operations.specs.Run.{run, dynamic_made}
use Rattle.operations.proofs.Calls.{path_room}
use Rattle.operations.proofs.Changes.{adds_dynamic}
use Rattle.operations.proofs.running.make_dynamic.Goals as goal

pub ensure_child-number-requires-clause-room : goal.ensure_child-number-requires-clause-room
ensure_child-number-requires-clause-room c =
    path_room _ _ _ _ _ _ (adds_dynamic _ _ _ c.args.count) c.requires.room

pub returns-clause-grows : goal.returns-clause-grows
unfolding run
returns-clause-grows c =
    makes_then (λ (m : Made). dynamic_made m c.args.count) _ _ _ _ _ _ c.ensure_child-number.ensures c.set_dynamic.ensures
    (λ state number e q. λ i. set_dynamic (e i) (q i) c.args.count)
