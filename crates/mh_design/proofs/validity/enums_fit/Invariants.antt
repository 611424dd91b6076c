use Rattle.std.proofs.Common.{◌≡◌, drop}
use Rattle.std.specs.List.{list_all}
use Rattle.mh_design.specs.WellFormed as spec
use Rattle.mh_design.proofs.validity.enums_fit.Given as goal

abbrev pub invariant-loop-x : goal.invariant-loop-x
invariant-loop-x l =
    list_all spec.enum_fits l.enums
    ≡ list_all spec.enum_fits (drop l.x-index l.enums)
