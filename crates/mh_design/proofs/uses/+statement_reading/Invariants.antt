use Rattle.std.proofs.Common.{◌≡◌, ◌++◌, map, drop}
use Rattle.std.specs.List.{flat_map}
use Rattle.mh_design.specs.Tree.{arm_of, arms, block, statement_of}
use Rattle.mh_design.specs.Numbering as numbering
use Rattle.mh_design.specs.Uses as spec
use Rattle.mh_design.proofs.uses.+statement_reading.Given as goal

abbrev pub invariant-read_in_block-loop-s : goal.invariant-read_in_block-loop-s
invariant-read_in_block-loop-s l =
    l.fn.found ++ flat_map (spec.read_by l.d) (numbering.block_expressions (block (map statement_of l.body)))
    ≡ l.found ++ flat_map (spec.read_by l.d) (numbering.block_expressions (block (map statement_of (drop l.s-index l.body))))

abbrev pub invariant-read_in_branches-loop-branch : goal.invariant-read_in_branches-loop-branch
invariant-read_in_branches-loop-branch l =
    l.fn.found ++ flat_map (spec.read_by l.d) (numbering.arms_expressions (arms (map arm_of l.branches)))
    ≡ l.found ++ flat_map (spec.read_by l.d) (numbering.arms_expressions (arms (map arm_of (drop l.branch-index l.branches))))
