use Rattle.std.proofs.Common.{◌≡◌, [], drop}
use Rattle.mh_world.specs.Arguments.{filled_onto}
use Rattle.mh_world.proofs.arguments.filled.Given as goal

abbrev pub invariant-loop-param : goal.invariant-loop-param
invariant-loop-param l =
    filled_onto l.all (drop l.param-index l.params) l.rest l.named ≡ filled_onto [] l.params l.positional l.named
