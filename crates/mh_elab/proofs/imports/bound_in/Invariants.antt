use Rattle.std.proofs.Common.{◌≡◌, length}
use Rattle.mh_consts.specs.Names.{lookup}
use Rattle.mh_elab.specs.Views.{bindings_of}
use Rattle.mh_elab.proofs.imports.bound_in.Given as goal

abbrev pub invariant-loop-table : goal.invariant-loop-table
invariant-loop-table l = lookup (bindings_of l.table) l.t ≡ lookup (bindings_of l.fn.table) l.t

abbrev pub decreases-loop-table : goal.decreases-loop-table
decreases-loop-table l = length l.table
