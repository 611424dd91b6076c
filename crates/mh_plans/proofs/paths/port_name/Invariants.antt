use Rattle.std.proofs.Common.{◌≡◌, drop}
use Rattle.mh_plans.specs.Paths as spec
use Rattle.mh_plans.proofs.paths.port_name.Given as goal

abbrev pub invariant-loop-argument : goal.invariant-loop-argument
invariant-loop-argument l = spec.port_name l.arguments l.n ≡ spec.port_name (drop l.argument-index l.arguments) l.n
