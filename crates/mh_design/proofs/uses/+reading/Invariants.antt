use Rattle.std.proofs.Common.{◌≡◌, ◌++◌, map, drop}
use Rattle.std.specs.List.{flat_map}
use Rattle.mh_design.specs.Tree.{expression_of, row}
use Rattle.mh_design.specs.Numbering as numbering
use Rattle.mh_design.specs.Uses as spec
use Rattle.mh_design.proofs.uses.+reading.Given as goal

abbrev pub invariant-read_in_all-loop-part : goal.invariant-read_in_all-loop-part
invariant-read_in_all-loop-part l =
    l.fn.found ++ flat_map (spec.read_by l.d) (numbering.all_expressions (row (map expression_of l.parts)))
    ≡ l.found ++ flat_map (spec.read_by l.d) (numbering.all_expressions (row (map expression_of (drop l.part-index l.parts))))
