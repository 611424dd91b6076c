use Rattle.std.proofs.Common.{◌≡◌, drop}
use Rattle.std.specs.List.{list_all}
use Rattle.mh_design.specs.WellFormed as spec
use Rattle.mh_design.proofs.validity.locals_fit.Given as goal

abbrev pub invariant-loop-v : goal.invariant-loop-v
invariant-loop-v l =
    list_all (spec.local_fits l.d) l.locals
    ≡ list_all (spec.local_fits l.d) (drop l.v-index l.locals)
