use Rattle.std.proofs.Common.{◌≡◌, drop}
use Rattle.std.specs.List.{list_all}
use Rattle.mh_design.specs.WellFormed as spec
use Rattle.mh_design.proofs.validity.generators_fit.Given as goal

abbrev pub invariant-loop-g : goal.invariant-loop-g
invariant-loop-g l =
    list_all (spec.generator_fits l.d) l.generators
    ≡ list_all (spec.generator_fits l.d) (drop l.g-index l.generators)
