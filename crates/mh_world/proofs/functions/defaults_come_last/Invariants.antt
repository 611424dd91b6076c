use Rattle.std.proofs.Common.{◌≡◌, drop, map, if◌then◌else◌}
use Rattle.mh_world.specs.Functions.{all_have_defaults, defaults_come_last}
use Rattle.mh_world.specs.Statements.{parameter_of}
use Rattle.mh_world.proofs.functions.defaults_come_last.Given as goal

abbrev pub invariant-loop-param : goal.invariant-loop-param
invariant-loop-param l =
    (if l.had_one then all_have_defaults (map parameter_of (drop l.param-index l.params)) else defaults_come_last (map parameter_of (drop l.param-index l.params)))
    ≡ defaults_come_last (map parameter_of l.params)
