use Rattle.std.proofs.Common.{◌≡◌, [], drop, map}
use Rattle.mh_consts.specs.Expression.{ex_of, exs}
use Rattle.mh_lower.specs.Waits.{waits_onto}
use Rattle.mh_lower.proofs.waits.waits_for.Given as goal

abbrev pub invariant-loop-e : goal.invariant-loop-e
invariant-loop-e l = waits_onto l.s l.locals l.all (exs (map ex_of (drop l.e-index l.xs))) ≡ waits_onto l.s l.locals [] (exs (map ex_of l.xs))
