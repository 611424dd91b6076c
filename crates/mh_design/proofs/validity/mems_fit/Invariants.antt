use Rattle.std.proofs.Common.{◌≡◌, drop}
use Rattle.std.specs.List.{list_all}
use Rattle.mh_design.specs.WellFormed as spec
use Rattle.mh_design.proofs.validity.mems_fit.Given as goal

abbrev pub invariant-loop-m : goal.invariant-loop-m
invariant-loop-m l =
    list_all (spec.mem_fits l.d) l.mems
    ≡ list_all (spec.mem_fits l.d) (drop l.m-index l.mems)
