use Rattle.std.proofs.Common.{◌≡◌, ◌++◌, drop, map}
use Rattle.mh_world.specs.Functions.{with_defaults}
use Rattle.mh_world.specs.Statements.{parameter_of}
use Rattle.mh_world.proofs.functions.with_defaults.Given as goal

abbrev pub invariant-loop-param : goal.invariant-loop-param
invariant-loop-param l =
    l.all ++ with_defaults (map parameter_of (drop l.param-index l.params)) l.rest ≡ with_defaults (map parameter_of l.params) l.values
