use Rattle.std.proofs.Common.{◌≡◌, map, take}
use Rattle.mh_signals.specs.Woken.{woken_with}
use Rattle.mh_signals.proofs.start.woken_waiters.Given as goal

abbrev pub invariant-loop-room : goal.invariant-loop-room
invariant-loop-room l = l.all.items ≡ map woken_with (take l.room-index l.rooms)
