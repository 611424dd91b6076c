use Rattle.std.proofs.Common.{◌≡◌, ◌++◌, map, drop}
use Rattle.std.specs.List.{flat_map}
use Rattle.mh_design.specs.Tree.{expression_of, row}
use Rattle.mh_design.specs.Numbering as numbering
use Rattle.mh_plans.specs.Plans as spec
use Rattle.mh_plans.proofs.used.+indexing.Given as goal

abbrev pub invariant-index_in_all-loop-part : goal.invariant-index_in_all-loop-part
invariant-index_in_all-loop-part l = record {
  mems : l.fn.found.mems ++ flat_map spec.mem_read (numbering.all_expressions (row (map expression_of l.parts))) ≡ l.found.mems ++ flat_map spec.mem_read (numbering.all_expressions (row (map expression_of (drop l.part-index l.parts))));
  tables : l.fn.found.tables ++ flat_map spec.table_read (numbering.all_expressions (row (map expression_of l.parts))) ≡ l.found.tables ++ flat_map spec.table_read (numbering.all_expressions (row (map expression_of (drop l.part-index l.parts))));
}
