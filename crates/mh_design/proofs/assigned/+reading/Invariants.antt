use Rattle.std.proofs.Common.{◌≡◌, map, drop}
use Rattle.std.specs.List.{list_any}
use Rattle.mh_design.specs.Tree.{expression_of, row}
use Rattle.mh_design.specs.Numbering.{all_expressions}
use Rattle.mh_design.specs.Assigned as spec
use Rattle.mh_design.proofs.assigned.+reading.Given as goal

abbrev pub invariant-some_reads-loop-part : goal.invariant-some_reads-loop-part
invariant-some_reads-loop-part l =
    list_any (spec.is_local l.local) (all_expressions (row (map expression_of l.parts)))
    ≡ list_any (spec.is_local l.local) (all_expressions (row (map expression_of (drop l.part-index l.parts))))
