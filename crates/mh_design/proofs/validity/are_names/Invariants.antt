use Rattle.std.proofs.Common.{◌≡◌, drop}
use Rattle.std.specs.List.{list_all}
use Rattle.mh_design.specs.WellFormed as spec
use Rattle.mh_design.proofs.validity.are_names.Given as goal

abbrev pub invariant-loop-text : goal.invariant-loop-text
invariant-loop-text l =
    list_all spec.is_name l.texts
    ≡ list_all spec.is_name (drop l.text-index l.texts)
