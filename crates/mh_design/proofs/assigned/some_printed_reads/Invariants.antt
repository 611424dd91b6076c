use Rattle.std.proofs.Common.{◌≡◌, map, drop}
use Rattle.std.specs.List.{list_any, flat_map}
use Rattle.mh_design.specs.Tree.{printed_of}
use Rattle.mh_design.specs.Numbering.{printed_numbers}
use Rattle.mh_design.specs.Assigned as spec
use Rattle.mh_design.proofs.assigned.some_printed_reads.Given as goal

abbrev pub invariant-loop-part : goal.invariant-loop-part
invariant-loop-part l =
    list_any (spec.reads_local l.local) (flat_map printed_numbers (map printed_of l.parts))
    ≡ list_any (spec.reads_local l.local) (flat_map printed_numbers (map printed_of (drop l.part-index l.parts)))
