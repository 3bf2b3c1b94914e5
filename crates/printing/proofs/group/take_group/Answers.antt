-- The front lies within the room.
use Rattle.std.proofs.Common.{arith, sym}
use Rattle.std.proofs.lemmas.List.{length-take-le}
use Rattle.printing.proofs.group.take_group.Goals as goal

pub slice_bounds-front-end-2 : goal.slice_bounds-front-end-2
slice_bounds-front-end-2 g c = sym (length-take-le 244 c.args.group.now (omega (arith, c.requires)))
