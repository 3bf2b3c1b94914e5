use Rattle.operations.proofs.Rooms.{room_enough, room_counted}
use Rattle.operations.proofs.room.has_room.Goals as goal

pub returns-then-free-ge-MOST_ADDED : goal.returns-then-free-ge-MOST_ADDED
returns-then-free-ge-MOST_ADDED c = room_enough _ _ _ _ _ _ c.args.facts.now.shaped c.if-free-ge-MOST_ADDED.true

pub returns : goal.returns
returns c =
    room_counted _ _ _ _ _ _ c.args.facts.now.shaped
    _ _ _ c.full_path-first.ensures c.full_path-second.ensures c.full_path-third.ensures
    _ _ _ c.eq.ensures c.eq-2.ensures c.eq-3.ensures
    _ _ _ c.lack-one.ensures.0 c.lack-two.ensures.0 c.lack-three.ensures.0
