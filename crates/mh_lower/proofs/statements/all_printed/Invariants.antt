use Rattle.std.proofs.Common.{◌≡◌, [], drop, map}
use Rattle.mh_consts.specs.Expression.{given_of, parts_of}
use Rattle.mh_lower.specs.Statements.{printed_onto}
use Rattle.mh_lower.proofs.statements.all_printed.Given as goal

abbrev pub invariant-loop-argument : goal.invariant-loop-argument
invariant-loop-argument l =
    printed_onto l.s l.locals l.w l.all (parts_of (map given_of (drop l.argument-index l.arguments))) l.d
    ≡ printed_onto l.s l.locals l.w [] (parts_of (map given_of l.arguments)) l.initial.d
