use Rattle.std.proofs.Common.{◌≡◌, drop}
use Rattle.std.specs.List.{list_all}
use Rattle.mh_design.specs.WellFormed as spec
use Rattle.mh_design.proofs.validity.tables_fit.Given as goal

abbrev pub invariant-loop-t : goal.invariant-loop-t
invariant-loop-t l =
    list_all spec.table_fits l.tables
    ≡ list_all spec.table_fits (drop l.t-index l.tables)
