use Rattle.std.proofs.Common.{◌≡◌, drop, map}
use Rattle.mh_consts.specs.Expression.{ex_of, given_of, parts_of, exs}
use Rattle.mh_consts.specs.Constant.{values}
use Rattle.mh_consts.specs.Steps.{onto}
use Rattle.mh_consts.proofs.evaluate.+value.Given as goal

abbrev pub invariant-argument_values-loop-argument : goal.invariant-argument_values-loop-argument
invariant-argument_values-loop-argument l =
    onto l.items (values l.s (parts_of (map given_of (drop l.argument-index l.xs)))) ≡ onto l.initial.items (values l.s (parts_of (map given_of l.xs)))

abbrev pub invariant-values-loop-e : goal.invariant-values-loop-e
invariant-values-loop-e l =
    onto l.items (values l.s (exs (map ex_of (drop l.e-index l.xs)))) ≡ values l.s (exs (map ex_of l.xs))
