use Rattle.std.proofs.Common.{◌≡◌, map, drop}
use Rattle.std.specs.List.{list_all}
use Rattle.mh_design.specs.Tree.{arm_of, arms}
use Rattle.mh_design.specs.Numbering.{arm_tests}
use Rattle.mh_design.specs.Constants.{constants_keep}
use Rattle.mh_design.proofs.statements.tests_keep.Given as goal

abbrev pub invariant-loop-branch : goal.invariant-loop-branch
invariant-loop-branch l =
    list_all (constants_keep l.d l.locals) (arm_tests (arms (map arm_of l.branches)))
    ≡ list_all (constants_keep l.d l.locals) (arm_tests (arms (map arm_of (drop l.branch-index l.branches))))
