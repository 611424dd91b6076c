use Rattle.std.proofs.Common.{◌≡◌, map, drop}
use Rattle.std.specs.List.{list_all}
use Rattle.mh_design.specs.Tree.{printed_of}
use Rattle.mh_design.specs.Depth as spec
use Rattle.mh_design.proofs.depth.all_printed_are_within.Given as goal

abbrev pub invariant-loop-part : goal.invariant-loop-part
invariant-loop-part l =
    list_all (spec.printed_is_within l.levels) (map printed_of l.parts) ≡ list_all (spec.printed_is_within l.levels) (map printed_of (drop l.part-index l.parts))
