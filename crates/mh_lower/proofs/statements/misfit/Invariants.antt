use Rattle.std.proofs.Common.{◌≡◌, drop, map}
use Rattle.mh_consts.specs.Expression.{given_of, parts_of}
use Rattle.mh_exprs.specs.Expression.{all}
use Rattle.mh_lower.proofs.statements.misfit.Given as goal

abbrev pub invariant-loop-argument : goal.invariant-loop-argument
invariant-loop-argument l =
    all l.s l.locals l.w (parts_of (map given_of (drop l.argument-index l.arguments))) l.d
    ≡ all l.s l.locals l.w (parts_of (map given_of l.arguments)) l.initial.d
