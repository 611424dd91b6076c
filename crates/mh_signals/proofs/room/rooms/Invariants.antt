use Rattle.std.proofs.Common.{◌≡◌, map, take}
use Rattle.mh_design.specs.Bodies.{waits_room}
use Rattle.mh_signals.proofs.room.rooms.Given as goal

abbrev pub invariant-loop-g : goal.invariant-loop-g
invariant-loop-g l = l.all.items ≡ map (λ g. waits_room l.d g g.kind) (take l.g-index l.d.generators)
