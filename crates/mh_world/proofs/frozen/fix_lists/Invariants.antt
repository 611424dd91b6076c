use Rattle.std.proofs.Common.{◌≡◌, drop}
use Rattle.mh_world.specs.Frozen as frozen
use Rattle.mh_world.proofs.frozen.fix_lists.Given as goal

abbrev pub invariant-loop-mem : goal.invariant-loop-mem
invariant-loop-mem l = frozen.fix_lists l.marks (drop l.mem-index l.mems) ≡ frozen.fix_lists l.fn.marks l.mems
