use Rattle.std.proofs.Common.{◌≡◌, map, drop}
use Rattle.mh_consts.specs.Expression.{exs, join}
use Rattle.mh_elab.specs.Views.{expression_at}
use Rattle.mh_world.specs.Functions.{defaults}
use Rattle.mh_world.specs.Statements.{parameter_of}
use Rattle.mh_elab.proofs.kids.of_params.Given as goal

abbrev pub invariant-loop-param : goal.invariant-loop-param
invariant-loop-param l = join (exs (map expression_at l.values.items)) (defaults (map parameter_of (drop l.param-index l.params))) ≡ defaults (map parameter_of l.params)
