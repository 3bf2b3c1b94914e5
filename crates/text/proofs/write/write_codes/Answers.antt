-- Code by code.
use Rattle.std.proofs.Common.{rules, length, ap}
use Rattle.text.proofs.Writings.{writing_none, writing_room, writing_more, writing_end}
use Rattle.text.proofs.write.write_codes.Goals as goal

pub loop-i-init : goal.loop-i-init
loop-i-init c = let e = ap length c.new-held.ensures in search (writing_none, rules)

pub write_code-requires : goal.write_code-requires
write_code-requires c = search (writing_room, rules)

pub loop-i-preserved : goal.loop-i-preserved
loop-i-preserved c = search (writing_more, rules)

pub returns-clause-stored : goal.returns-clause-stored
returns-clause-stored c = search (writing_end, rules)
