use Rattle.std.proofs.Common.{◌≡◌, [], drop, map}
use Rattle.mh_world.specs.Functions.{differ_onto}
use Rattle.mh_world.specs.Statements.{parameter_of}
use Rattle.mh_world.proofs.functions.all_differ.Given as goal

abbrev pub invariant-loop-param : goal.invariant-loop-param
invariant-loop-param l = differ_onto l.met (map parameter_of (drop l.param-index l.params)) ≡ differ_onto [] (map parameter_of l.params)
