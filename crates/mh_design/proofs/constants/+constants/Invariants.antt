use Rattle.std.proofs.Common.{◌≡◌, map, drop}
use Rattle.std.specs.List.{list_all}
use Rattle.mh_design.specs.Tree.{expression_of, row}
use Rattle.mh_design.specs.Numbering.{all_expressions}
use Rattle.mh_design.specs.Constants as spec
use Rattle.mh_design.proofs.constants.+constants.Given as goal

abbrev pub invariant-all_keep-loop-part : goal.invariant-all_keep-loop-part
invariant-all_keep-loop-part l =
    list_all (spec.keeps_rule l.d l.locals) (all_expressions (row (map expression_of l.parts)))
    ≡ list_all (spec.keeps_rule l.d l.locals) (all_expressions (row (map expression_of (drop l.part-index l.parts))))
