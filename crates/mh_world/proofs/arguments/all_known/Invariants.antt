use Rattle.std.proofs.Common.{◌≡◌, ◌-◌, drop, length}
use Rattle.mh_world.specs.Arguments as spec
use Rattle.mh_world.proofs.arguments.all_known.Given as goal

abbrev pub invariant-loop-name : goal.invariant-loop-name
invariant-loop-name l = spec.all_known l.known (drop l.place l.named) ≡ spec.all_known l.known l.named

abbrev pub decreases-loop-name : goal.decreases-loop-name
decreases-loop-name l = length l.named - l.place
