use Rattle.std.proofs.Common.{◌≡◌, ◌++◌, map, drop}
use Rattle.std.specs.List.{flat_map}
use Rattle.mh_design.specs.Tree.{printed_of}
use Rattle.mh_design.specs.Numbering as numbering
use Rattle.mh_plans.specs.Plans as spec
use Rattle.mh_plans.proofs.used.index_in_print.Given as goal

abbrev pub invariant-loop-part : goal.invariant-loop-part
invariant-loop-part l = record {
  mems : l.fn.found.mems ++ flat_map spec.mem_read (flat_map numbering.expressions (flat_map numbering.printed_numbers (map printed_of l.parts))) ≡ l.found.mems ++ flat_map spec.mem_read (flat_map numbering.expressions (flat_map numbering.printed_numbers (map printed_of (drop l.part-index l.parts))));
  tables : l.fn.found.tables ++ flat_map spec.table_read (flat_map numbering.expressions (flat_map numbering.printed_numbers (map printed_of l.parts))) ≡ l.found.tables ++ flat_map spec.table_read (flat_map numbering.expressions (flat_map numbering.printed_numbers (map printed_of (drop l.part-index l.parts))));
}
