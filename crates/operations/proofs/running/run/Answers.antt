use Rattle.operations.specs.Run.{run}
use Rattle.operations.specs.Asks.{makes}
use Rattle.paths.proofs.Lending.{stays, grows_so}
use Rattle.operations.proofs.Calls.{run_room}
use Rattle.std.proofs.Common.{refl, ap}
use Rattle.operations.proofs.running.run.Goals as goal

pub mark_not_bool-requires-clause-room : goal.mark_not_bool-requires-clause-room
mark_not_bool-requires-clause-room c = run_room _ _ _ _ _ (ap makes c.in-MarkNotBool.is) c.requires.room

pub insert_not_bool-requires-clause-room : goal.insert_not_bool-requires-clause-room
insert_not_bool-requires-clause-room c = run_room _ _ _ _ _ (ap makes c.in-InsertNotBool.is) c.requires.room

pub get_or_create-requires-clause-room : goal.get_or_create-requires-clause-room
get_or_create-requires-clause-room c = run_room _ _ _ _ _ (ap makes c.in-GetOrCreate.is) c.requires.room

pub set_tname-requires-clause-room : goal.set_tname-requires-clause-room
set_tname-requires-clause-room c = run_room _ _ _ _ _ (ap makes c.in-SetTname.is) c.requires.room

pub returns-in-Nothing : goal.returns-in-Nothing
unfolding run
returns-in-Nothing c = rw c.in-Nothing.is (grows_so _ _ _ (stays _ _ refl))

pub returns-in-ClearRangeHint : goal.returns-in-ClearRangeHint
unfolding run
returns-in-ClearRangeHint c = rw c.in-ClearRangeHint.is (grows_so _ _ _ c.clear_range_hint.ensures)

pub returns-in-ClearRangeHints : goal.returns-in-ClearRangeHints
unfolding run
returns-in-ClearRangeHints c = rw c.in-ClearRangeHints.is (grows_so _ _ _ c.clear_range_hints.ensures)

pub returns-in-MarkNotBool : goal.returns-in-MarkNotBool
unfolding run
returns-in-MarkNotBool c = rw c.in-MarkNotBool.is c.mark_not_bool.ensures.grows

pub returns-in-InsertNotBool : goal.returns-in-InsertNotBool
unfolding run
returns-in-InsertNotBool c = rw c.in-InsertNotBool.is c.insert_not_bool.ensures.grows

pub returns-in-GetOrCreate : goal.returns-in-GetOrCreate
unfolding run
returns-in-GetOrCreate c = rw c.in-GetOrCreate.is (record { state = c.get_or_create.ensures.state; used = c.get_or_create.ensures.range.2; same = c.get_or_create.ensures.same })

pub returns-in-SetTname : goal.returns-in-SetTname
unfolding run
returns-in-SetTname c = rw c.in-SetTname.is c.set_tname.ensures.grows

pub returns-in-SetArray : goal.returns-in-SetArray
unfolding run
returns-in-SetArray c = rw c.in-SetArray.is (grows_so _ _ _ c.set_array.ensures)
