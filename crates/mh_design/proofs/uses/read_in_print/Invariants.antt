use Rattle.std.proofs.Common.{◌≡◌, ◌++◌, map, drop}
use Rattle.std.specs.List.{flat_map}
use Rattle.mh_design.specs.Tree.{printed_of}
use Rattle.mh_design.specs.Numbering as numbering
use Rattle.mh_design.specs.Uses as spec
use Rattle.mh_design.proofs.uses.read_in_print.Given as goal

abbrev pub invariant-loop-part : goal.invariant-loop-part
invariant-loop-part l =
    l.fn.found ++ flat_map (spec.read_by l.d) (flat_map numbering.expressions (flat_map numbering.printed_numbers (map printed_of l.parts)))
    ≡ l.found ++ flat_map (spec.read_by l.d) (flat_map numbering.expressions (flat_map numbering.printed_numbers (map printed_of (drop l.part-index l.parts))))
