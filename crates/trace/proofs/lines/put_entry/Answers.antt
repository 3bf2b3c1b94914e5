-- Answer by answer of the text call.
use Rattle.std.proofs.Common.{rules}
use Rattle.trace.proofs.EntryLines.{entry_refused, entry_room, entry_written}
use Rattle.trace.proofs.lines.put_entry.Goals as goal

pub put-requires-in-Ok : goal.put-requires-in-Ok
put-requires-in-Ok c = search (entry_room, rules)

pub returns-in-Ok-clause-entry_stored : goal.returns-in-Ok-clause-entry_stored
returns-in-Ok-clause-entry_stored c = search (entry_written, rules)

pub returns-in-Err-clause-entry_stored : goal.returns-in-Err-clause-entry_stored
returns-in-Err-clause-entry_stored c = search (entry_refused, rules)
