use Rattle.std.proofs.Common.{◌≡◌, drop, is_some, true}
use Rattle.mh_elab.specs.Elaboration.{bind_names}
use Rattle.mh_elab.specs.Views.{names_given}
use Rattle.mh_world.specs.Statements.{names_of}
use Rattle.mh_world.specs.View.{world}
use Rattle.mh_elab.proofs.targets.bind_names.Given as goal

abbrev pub invariant-loop-e : goal.invariant-loop-e
invariant-loop-e l = record {
  named : is_some (names_of (drop l.e-index l.xs)) ≡ true;
  same : bind_names l.line (names_given (names_of (drop l.e-index l.xs))) l.rest (world l.state) ≡ bind_names l.line (names_given (names_of l.xs)) l.vs (world l.fn.state);
}
