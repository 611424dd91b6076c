use Rattle.std.proofs.Common.{◌≡◌, drop}
use Rattle.mh_design.specs.WellFormed as spec
use Rattle.mh_design.proofs.validity.met_all.Given as goal

abbrev pub invariant-loop-cell : goal.invariant-loop-cell
invariant-loop-cell l =
    spec.met_all l.d l.fn.first l.cells ≡ spec.met_all l.d l.kind (drop l.cell-index l.cells)
