use Rattle.std.proofs.Common.{◌≡◌, max, map, drop}
use Rattle.mh_design.specs.Tree.{statement_of, arm_of, block, arms}
use Rattle.mh_signals.specs.Rooms.{block_room, arms_room}
use Rattle.mh_signals.proofs.room.+room.Given as goal

abbrev pub invariant-block_room-loop-s : goal.invariant-block_room-loop-s
invariant-block_room-loop-s l =
    max l.most (block_room (block (map statement_of (drop l.s-index l.body)))) ≡ block_room (block (map statement_of l.body))

abbrev pub invariant-branches_room-loop-branch : goal.invariant-branches_room-loop-branch
invariant-branches_room-loop-branch l =
    max l.most (arms_room (arms (map arm_of (drop l.branch-index l.branches)))) ≡ arms_room (arms (map arm_of l.branches))
