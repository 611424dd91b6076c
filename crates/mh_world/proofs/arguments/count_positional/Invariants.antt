use Rattle.std.proofs.Common.{◌≡◌, ◌+◌, drop, map}
use Rattle.mh_consts.specs.Expression.{given_of, keys_of}
use Rattle.mh_world.specs.Arguments.{count_positional}
use Rattle.mh_world.proofs.arguments.count_positional.Given as goal

abbrev pub invariant-loop-argument : goal.invariant-loop-argument
invariant-loop-argument l = record {
  place : l.count ≡ l.argument-index;
  same : l.count + count_positional (keys_of (map given_of (drop l.argument-index l.arguments))) ≡ count_positional (keys_of (map given_of l.arguments));
}
