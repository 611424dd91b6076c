use Rattle.std.proofs.Common.{◌≡◌, drop}
use Rattle.mh_design.specs.WellFormed as spec
use Rattle.mh_design.proofs.validity.is_name.Given as goal

abbrev pub invariant-loop-c : goal.invariant-loop-c
invariant-loop-c l =
    spec.is_name l.text
    ≡ spec.is_name (drop l.c-index l.text)
