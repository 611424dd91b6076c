use Rattle.std.proofs.Common.{ap, ◌∙◌, length, map}
use Rattle.mh_design.specs.Tree.{block, statement_of}
use Rattle.mh_signals.specs.Rooms.{block_room}
use Rattle.mh_signals.proofs.RoomLaws.{room-comb, room-instance}
use Rattle.mh_signals.proofs.room.room_of.Goals as goal

pub returns-in_ok-read-in-Comb : goal.returns-in_ok-read-in-Comb
returns-in_ok-read-in-Comb c =
    c.len.ensures ∙ ap length c.in_ok-read-in-Comb.ensures ∙ room-comb c.args.d.now c.args.g.now c.args.g.now.kind c.in-Comb.is

pub returns-in-Instance : goal.returns-in-Instance
returns-in-Instance c =
    c.block_room.ensures
    ∙ ap (λ b. block_room (block (map statement_of b))) c.as_slice.ensures
    ∙ room-instance c.args.d.now c.args.g.now c.args.g.now.kind c.in-Instance.is
