use Rattle.std.proofs.Common.{◌≡◌, drop, map}
use Rattle.mh_consts.specs.Expression.{ex_of, exs}
use Rattle.mh_lower.specs.Generators.{names_onto}
use Rattle.mh_lower.proofs.names.add_names.Given as goal

abbrev pub invariant-loop-e : goal.invariant-loop-e
invariant-loop-e l = names_onto l.locals (exs (map ex_of (drop l.e-index l.xs))) ≡ names_onto l.initial.locals (exs (map ex_of l.xs))
