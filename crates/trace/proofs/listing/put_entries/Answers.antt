-- Entry by entry.
use Rattle.std.proofs.Common.{rules}
use Rattle.trace.proofs.EntryLoops.{listing_none, listing_full, listing_end, listing_more}
use Rattle.trace.proofs.listing.put_entries.Goals as goal

pub loop-k-init : goal.loop-k-init
loop-k-init c = search (listing_none, rules)

pub returns-then-w-lt-LINE_ROOM-clause-entries_stored : goal.returns-then-w-lt-LINE_ROOM-clause-entries_stored
returns-then-w-lt-LINE_ROOM-clause-entries_stored c = search (listing_full, rules)

pub loop-k-preserved : goal.loop-k-preserved
loop-k-preserved c = search (listing_more, rules)

pub returns-clause-entries_stored : goal.returns-clause-entries_stored
returns-clause-entries_stored c = search (listing_end, rules)
