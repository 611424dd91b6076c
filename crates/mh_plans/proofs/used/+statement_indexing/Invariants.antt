use Rattle.std.proofs.Common.{◌≡◌, ◌++◌, map, drop}
use Rattle.std.specs.List.{flat_map}
use Rattle.mh_design.specs.Tree.{arm_of, arms, block, statement_of}
use Rattle.mh_design.specs.Numbering as numbering
use Rattle.mh_plans.specs.Plans as spec
use Rattle.mh_plans.proofs.used.+statement_indexing.Given as goal

abbrev pub invariant-index_in_block-loop-s : goal.invariant-index_in_block-loop-s
invariant-index_in_block-loop-s l = record {
  mems : l.fn.found.mems ++ flat_map spec.mem_read (numbering.block_expressions (block (map statement_of l.body))) ≡ l.found.mems ++ flat_map spec.mem_read (numbering.block_expressions (block (map statement_of (drop l.s-index l.body))));
  tables : l.fn.found.tables ++ flat_map spec.table_read (numbering.block_expressions (block (map statement_of l.body))) ≡ l.found.tables ++ flat_map spec.table_read (numbering.block_expressions (block (map statement_of (drop l.s-index l.body))));
}

abbrev pub invariant-index_in_branches-loop-branch : goal.invariant-index_in_branches-loop-branch
invariant-index_in_branches-loop-branch l = record {
  mems : l.fn.found.mems ++ flat_map spec.mem_read (numbering.arms_expressions (arms (map arm_of l.branches))) ≡ l.found.mems ++ flat_map spec.mem_read (numbering.arms_expressions (arms (map arm_of (drop l.branch-index l.branches))));
  tables : l.fn.found.tables ++ flat_map spec.table_read (numbering.arms_expressions (arms (map arm_of l.branches))) ≡ l.found.tables ++ flat_map spec.table_read (numbering.arms_expressions (arms (map arm_of (drop l.branch-index l.branches))));
}
