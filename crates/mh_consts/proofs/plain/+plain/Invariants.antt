use Rattle.std.proofs.Common.{◌≡◌, drop, map}
use Rattle.mh_consts.specs.Expression.{ex_of, given_of, parts_of, exs}
use Rattle.mh_consts.specs.Constant.{are_plain}
use Rattle.mh_consts.proofs.plain.+plain.Given as goal

abbrev pub invariant-are_plain_arguments-loop-argument : goal.invariant-are_plain_arguments-loop-argument
invariant-are_plain_arguments-loop-argument l =
    are_plain l.s (parts_of (map given_of (drop l.argument-index l.xs))) ≡ are_plain l.s (parts_of (map given_of l.xs))

abbrev pub invariant-are_plain-loop-e : goal.invariant-are_plain-loop-e
invariant-are_plain-loop-e l =
    are_plain l.s (exs (map ex_of (drop l.e-index l.xs))) ≡ are_plain l.s (exs (map ex_of l.xs))
