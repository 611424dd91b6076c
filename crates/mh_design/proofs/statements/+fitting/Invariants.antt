use Rattle.std.proofs.Common.{◌≡◌, map, drop}
use Rattle.std.specs.List.{list_all}
use Rattle.mh_design.specs.Tree.{statement_of, arm_of, block, arms}
use Rattle.mh_design.specs.Numbering.{block_statements, arms_statements}
use Rattle.mh_design.specs.Statements as spec
use Rattle.mh_design.proofs.statements.+fitting.Given as goal

abbrev pub invariant-block_fits-loop-s : goal.invariant-block_fits-loop-s
invariant-block_fits-loop-s l =
    list_all (spec.statement_fits l.d l.locals l.instance) (block_statements (block (map statement_of l.body)))
    ≡ list_all (spec.statement_fits l.d l.locals l.instance) (block_statements (block (map statement_of (drop l.s-index l.body))))

abbrev pub invariant-branches_fit-loop-branch : goal.invariant-branches_fit-loop-branch
invariant-branches_fit-loop-branch l =
    list_all (spec.statement_fits l.d l.locals l.instance) (arms_statements (arms (map arm_of l.branches)))
    ≡ list_all (spec.statement_fits l.d l.locals l.instance) (arms_statements (arms (map arm_of (drop l.branch-index l.branches))))
