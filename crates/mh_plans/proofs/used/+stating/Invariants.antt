use Rattle.std.proofs.Common.{◌≡◌, ◌++◌, map, drop}
use Rattle.std.specs.List.{flat_map}
use Rattle.mh_design.specs.Tree.{arm_of, arms, block, statement_of}
use Rattle.mh_design.specs.Numbering as numbering
use Rattle.mh_design.specs.Uses.{waited_by}
use Rattle.mh_plans.specs.Plans as spec
use Rattle.mh_plans.proofs.used.+stating.Given as goal

abbrev pub invariant-state_block-loop-s : goal.invariant-state_block-loop-s
invariant-state_block-loop-s l = record {
  mems : l.fn.found.mems ++ flat_map spec.mem_driven (numbering.block_statements (block (map statement_of l.body))) ≡ l.found.mems ++ flat_map spec.mem_driven (numbering.block_statements (block (map statement_of (drop l.s-index l.body))));
  signals : l.fn.found.signals ++ flat_map spec.waited_signals (flat_map waited_by (numbering.block_statements (block (map statement_of l.body)))) ≡ l.found.signals ++ flat_map spec.waited_signals (flat_map waited_by (numbering.block_statements (block (map statement_of (drop l.s-index l.body)))));
}

abbrev pub invariant-state_branches-loop-branch : goal.invariant-state_branches-loop-branch
invariant-state_branches-loop-branch l = record {
  mems : l.fn.found.mems ++ flat_map spec.mem_driven (numbering.arms_statements (arms (map arm_of l.branches))) ≡ l.found.mems ++ flat_map spec.mem_driven (numbering.arms_statements (arms (map arm_of (drop l.branch-index l.branches))));
  signals : l.fn.found.signals ++ flat_map spec.waited_signals (flat_map waited_by (numbering.arms_statements (arms (map arm_of l.branches)))) ≡ l.found.signals ++ flat_map spec.waited_signals (flat_map waited_by (numbering.arms_statements (arms (map arm_of (drop l.branch-index l.branches)))));
}
