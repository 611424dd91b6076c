use Rattle.std.proofs.Common.{map, sym, ◌∙◌, arith}
use Rattle.mh_design.specs.Assigned.{is_assigned_first}
use Rattle.mh_design.specs.Tree.{block, statement_of}
use Rattle.mh_design.proofs.Below.{all_below_fails}
use Rattle.mh_design.proofs.validity.locals_are_assigned.Goals as goal

pub returns-then-not-is_assigned_first : goal.returns-then-not-is_assigned_first
returns-then-not-is_assigned_first c =
    sym (all_below_fails c.args.locals c.loop-local.local (is_assigned_first (block (map statement_of c.args.body.now))) (omega arith)
    (sym c.is_assigned_first.ensures ∙ c.if-not-is_assigned_first.true))
