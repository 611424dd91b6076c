use Rattle.std.proofs.Common.{◌≡◌, drop}
use Rattle.mh_design.specs.Inout.{first_inout}
use Rattle.mh_design.proofs.combs.inout.Given as goal

abbrev pub invariant-loop-g : goal.invariant-loop-g
invariant-loop-g l =
    first_inout l.d l.d.generators ≡ first_inout l.d (drop l.g-index l.d.generators)
