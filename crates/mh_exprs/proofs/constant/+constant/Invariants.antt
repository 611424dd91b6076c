use Rattle.std.proofs.Common.{◌≡◌, drop, map}
use Rattle.mh_consts.specs.Expression.{given_of, parts_of}
use Rattle.mh_exprs.specs.Constant.{are_constant}
use Rattle.mh_exprs.proofs.constant.+constant.Given as goal

abbrev pub invariant-are_constant-loop-argument : goal.invariant-are_constant-loop-argument
invariant-are_constant-loop-argument l =
    are_constant l.s l.locals (parts_of (map given_of l.xs)) ≡ are_constant l.s l.locals (parts_of (map given_of (drop l.argument-index l.xs)))
