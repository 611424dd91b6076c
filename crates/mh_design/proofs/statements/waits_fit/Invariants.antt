use Rattle.std.proofs.Common.{◌≡◌, drop}
use Rattle.std.specs.List.{list_all}
use Rattle.mh_design.specs.Statements as spec
use Rattle.mh_design.proofs.statements.waits_fit.Given as goal

abbrev pub invariant-loop-wait : goal.invariant-loop-wait
invariant-loop-wait l =
    list_all (spec.wait_fits l.d) l.waits
    ≡ list_all (spec.wait_fits l.d) (drop l.wait-index l.waits)
