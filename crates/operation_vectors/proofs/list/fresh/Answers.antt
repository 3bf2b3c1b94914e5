-- A fresh table is one that the operations take.
use Rattle.operation_vectors.proofs.Room.{fresh_shaped}
use Rattle.operation_vectors.proofs.list.fresh.Goals as goal

pub invariant_of-result-clause-shaped : goal.invariant_of-result-clause-shaped
invariant_of-result-clause-shaped c =
    fresh_shaped _ _ _ c.in_ok-records.ensures.count_answer c.in_ok-records.ensures.table_after
