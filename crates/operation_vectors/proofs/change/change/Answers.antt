-- What the path lacks fits beside the used records, so a path that is absent has room.
use Rattle.std.proofs.Common.{rules}
use Rattle.operation_vectors.proofs.Room.{room}
use Rattle.operation_vectors.proofs.change.change.Goals as goal

pub make-requires-clause-room : goal.make-requires-clause-room
make-requires-clause-room c = search (room, rules)
