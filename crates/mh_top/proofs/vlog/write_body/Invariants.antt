use Rattle.std.proofs.Common.{◌≡◌, ◌++◌, map, take}
use Rattle.std.specs.List.{flat_map}
use Rattle.mh_top.specs.Emission.{assignment_of, variable_names}
use Rattle.mh_top.specs.VerilogText.{assignment_lines}
use Rattle.mh_top.proofs.vlog.write_body.Given as goal

abbrev pub invariant-loop-statement : goal.invariant-loop-statement
invariant-loop-statement l =
    l.out.items ≡ l.fn.out.items ++ flat_map (assignment_lines (variable_names l.signals)) (map assignment_of (take l.statement-index l.body))
