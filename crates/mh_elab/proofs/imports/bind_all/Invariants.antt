use Rattle.std.proofs.Common.{◌≡◌, length}
use Rattle.mh_elab.specs.Elaboration.{bind_pairs}
use Rattle.mh_elab.specs.Views.{bindings_of}
use Rattle.mh_world.specs.View.{world}
use Rattle.mh_elab.proofs.imports.bind_all.Given as goal

abbrev pub invariant-loop-table : goal.invariant-loop-table
invariant-loop-table l = bind_pairs l.line (bindings_of l.table) (world l.state) ≡ bind_pairs l.line (bindings_of l.fn.table) (world l.fn.state)

abbrev pub decreases-loop-table : goal.decreases-loop-table
decreases-loop-table l = length l.table
