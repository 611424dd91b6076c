use Rattle.std.proofs.Common.{◌≡◌, drop, is_some}
use Rattle.mh_world.specs.Statements.{names_of}
use Rattle.mh_elab.proofs.targets.all_are_names.Given as goal

abbrev pub invariant-loop-e : goal.invariant-loop-e
invariant-loop-e l = is_some (names_of (drop l.e-index l.xs)) ≡ is_some (names_of l.xs)
