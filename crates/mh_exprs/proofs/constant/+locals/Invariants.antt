use Rattle.std.proofs.Common.{◌≡◌, drop, map}
use Rattle.mh_consts.specs.Expression.{ex_of, given_of, parts_of, exs}
use Rattle.mh_exprs.specs.Constant.{name_locals}
use Rattle.mh_exprs.proofs.constant.+locals.Given as goal

abbrev pub invariant-name_locals-loop-e : goal.invariant-name_locals-loop-e
invariant-name_locals-loop-e l = name_locals l.locals (exs (map ex_of l.xs)) ≡ name_locals l.locals (exs (map ex_of (drop l.e-index l.xs)))

abbrev pub invariant-arguments_name_locals-loop-argument : goal.invariant-arguments_name_locals-loop-argument
invariant-arguments_name_locals-loop-argument l =
    name_locals l.locals (parts_of (map given_of l.xs)) ≡ name_locals l.locals (parts_of (map given_of (drop l.argument-index l.xs)))
