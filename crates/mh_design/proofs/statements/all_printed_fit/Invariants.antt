use Rattle.std.proofs.Common.{◌≡◌, map, drop}
use Rattle.std.specs.List.{list_all}
use Rattle.mh_design.specs.Tree.{printed_of}
use Rattle.mh_design.specs.Statements as spec
use Rattle.mh_design.proofs.statements.all_printed_fit.Given as goal

abbrev pub invariant-loop-part : goal.invariant-loop-part
invariant-loop-part l =
    list_all (spec.printed_fits l.d l.locals) (map printed_of l.parts)
    ≡ list_all (spec.printed_fits l.d l.locals) (map printed_of (drop l.part-index l.parts))
