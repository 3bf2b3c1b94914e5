-- Level by level: what `pop` says of a level that was open, and that there was none.
use Rattle.std.proofs.Common.{rules}
use Rattle.text.proofs.Stacks.{end_stored, end_left, stop_stored, stop_left, turn_room, turn_again}
use Rattle.text.proofs.write.close.Goals as goal

pub returns-then-left-gt1-clause-stored : goal.returns-then-left-gt1-clause-stored
returns-then-left-gt1-clause-stored c = let p = c.in-Some.ensures.items in search (stop_stored, rules)

pub returns-then-left-gt1-clause-left : goal.returns-then-left-gt1-clause-left
returns-then-left-gt1-clause-left c = let p = c.in-Some.ensures.items in search (stop_left, rules)

pub put_closer-requires : goal.put_closer-requires
put_closer-requires c = let p = c.in-Some.ensures.items in search (turn_room, rules)

pub loop-left-preserved : goal.loop-left-preserved
loop-left-preserved c = let p = c.in-Some.ensures in search (turn_again, rules)

pub returns-clause-stored : goal.returns-clause-stored
returns-clause-stored c = search (end_stored, rules)

pub returns-clause-left : goal.returns-clause-left
returns-clause-left c = search (end_left, rules)
