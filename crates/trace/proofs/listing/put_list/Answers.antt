-- The first line, and the entries behind it.
use Rattle.std.proofs.Common.{rules}
use Rattle.trace.proofs.Pieces.{args_room}
use Rattle.trace.proofs.EntryLoops.{list_stored}
use Rattle.trace.proofs.listing.put_list.Goals as goal

pub put_entries-requires : goal.put_entries-requires
put_entries-requires c = search (args_room, rules)

pub returns-clause-list_stored : goal.returns-clause-list_stored
returns-clause-list_stored c = search (list_stored, rules)
