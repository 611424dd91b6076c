use Rattle.std.proofs.Common.{◌≡◌}
use Rattle.mh_world.specs.Labels.{all_rest, all_work}
use Rattle.mh_world.specs.Named.{label_through}
use Rattle.mh_world.proofs.marks.label_value.Given as goal

abbrev pub invariant-loop-top : goal.invariant-loop-top
invariant-loop-top l = all_rest l.lists l.stack.items l.marks ≡ label_through l.fn.lists l.fn.depth l.fn.label l.fn.v l.fn.marks

abbrev pub decreases-loop-top : goal.decreases-loop-top
decreases-loop-top l = all_work l.lists l.stack.items
