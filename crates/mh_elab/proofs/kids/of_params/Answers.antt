use Rattle.std.proofs.Common.{sym, ◌∙◌, map, arith}
use Rattle.std.proofs.lemmas.List.{at_drop_all}
use Rattle.mh_consts.specs.Expression.{exs, join}
use Rattle.mh_elab.specs.Views.{expression_at}
use Rattle.mh_world.specs.Functions.{defaults}
use Rattle.mh_world.specs.Statements.{parameter_of}
use Rattle.mh_elab.proofs.PartLaws.{join-none}
use Rattle.mh_elab.proofs.kids.of_params.Goals as goal

pub returns : goal.returns
returns c =
    sym (join-none (exs (map expression_at c.loop-param.values.items)))
    ∙ (sym (at_drop_all (λ ps. join (exs (map expression_at c.loop-param.values.items)) (defaults (map parameter_of ps))) c.args.params.now c.loop-param.param-index (omega arith)) ∙ c.loop-param.invariant)
