-- Answer by answer.
use Rattle.std.proofs.Common.{rules}
use Rattle.text.proofs.Calls.{no_room, text_fits, all_written}
use Rattle.text.proofs.call.text.Goals as goal

pub returns-then-out-length : goal.returns-then-out-length
returns-then-out-length c = search (no_room, rules)

pub write_list-requires : goal.write_list-requires
write_list-requires c = search (text_fits, rules)

pub returns : goal.returns
returns c = search (all_written, rules)
