use Rattle.std.proofs.Common.{◌≡◌, [], drop}
use Rattle.mh_world.specs.Arguments.{names_onto}
use Rattle.mh_world.proofs.arguments.names_of.Given as goal

abbrev pub invariant-loop-param : goal.invariant-loop-param
invariant-loop-param l = names_onto l.known (drop l.param-index l.params) ≡ names_onto [] l.params
