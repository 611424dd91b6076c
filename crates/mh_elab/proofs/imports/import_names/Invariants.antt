use Rattle.std.proofs.Common.{◌≡◌, drop}
use Rattle.mh_elab.specs.Elaboration.{import_names}
use Rattle.mh_world.specs.View.{world}
use Rattle.mh_elab.proofs.imports.import_names.Given as goal

abbrev pub invariant-loop-t : goal.invariant-loop-t
invariant-loop-t l = import_names l.line (drop l.t-index l.names) (world l.state) ≡ import_names l.line l.names (world l.fn.state)
