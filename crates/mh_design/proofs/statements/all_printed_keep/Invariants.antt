use Rattle.std.proofs.Common.{◌≡◌, map, drop}
use Rattle.std.specs.List.{list_all, flat_map}
use Rattle.mh_design.specs.Tree.{printed_of}
use Rattle.mh_design.specs.Numbering.{printed_numbers}
use Rattle.mh_design.specs.Constants.{constants_keep}
use Rattle.mh_design.proofs.statements.all_printed_keep.Given as goal

abbrev pub invariant-loop-part : goal.invariant-loop-part
invariant-loop-part l =
    list_all (constants_keep l.d l.locals) (flat_map printed_numbers (map printed_of l.parts))
    ≡ list_all (constants_keep l.d l.locals) (flat_map printed_numbers (map printed_of (drop l.part-index l.parts)))
