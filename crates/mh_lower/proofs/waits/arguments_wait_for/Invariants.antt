use Rattle.std.proofs.Common.{◌≡◌, [], drop, map}
use Rattle.mh_consts.specs.Expression.{given_of, parts_of}
use Rattle.mh_lower.specs.Waits.{waits_onto}
use Rattle.mh_lower.proofs.waits.arguments_wait_for.Given as goal

abbrev pub invariant-loop-argument : goal.invariant-loop-argument
invariant-loop-argument l = waits_onto l.s l.locals l.all (parts_of (map given_of (drop l.argument-index l.xs))) ≡ waits_onto l.s l.locals [] (parts_of (map given_of l.xs))
