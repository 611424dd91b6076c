use Rattle.std.proofs.Common.{◌≡◌, map, true}
use Rattle.mh_design.specs.Assigned.{all_below, is_assigned_first}
use Rattle.mh_design.specs.Tree.{block, statement_of}
use Rattle.mh_design.proofs.validity.locals_are_assigned.Given as goal

abbrev pub invariant-loop-local : goal.invariant-loop-local
invariant-loop-local l =
    all_below l.local (is_assigned_first (block (map statement_of l.body))) ≡ true
