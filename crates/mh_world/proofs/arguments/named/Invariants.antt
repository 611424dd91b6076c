use Rattle.std.proofs.Common.{◌≡◌, [], drop, map}
use Rattle.mh_consts.specs.Expression.{given_of, keys_of}
use Rattle.mh_world.specs.Arguments.{named_onto}
use Rattle.mh_world.proofs.arguments.named.Given as goal

abbrev pub invariant-loop-argument : goal.invariant-loop-argument
invariant-loop-argument l =
    named_onto l.found (keys_of (map given_of (drop l.argument-index l.arguments))) l.rest ≡ named_onto [] (keys_of (map given_of l.arguments)) l.values
