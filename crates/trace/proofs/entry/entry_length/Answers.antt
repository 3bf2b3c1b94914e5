-- Code by code.
use Rattle.std.proofs.Common.{rules}
use Rattle.trace.proofs.Spans.{spanning_none, spanning_short, spanning_end, spanning_more}
use Rattle.trace.proofs.entry.entry_length.Goals as goal

pub loop-i-init : goal.loop-i-init
loop-i-init c = spanning_none _

pub returns-then-wanted-eq0 : goal.returns-then-wanted-eq0
returns-then-wanted-eq0 c = search (spanning_end, rules)

pub loop-i-preserved : goal.loop-i-preserved
loop-i-preserved c = search (spanning_more, rules)

pub returns : goal.returns
returns c = search (spanning_short, rules)
