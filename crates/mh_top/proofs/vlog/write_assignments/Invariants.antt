use Rattle.std.proofs.Common.{◌≡◌, ◌++◌, map, take}
use Rattle.std.specs.List.{flat_map}
use Rattle.mh_top.specs.Emission.{assignment_of, variable_names}
use Rattle.mh_top.specs.VerilogText.{assignment_lines}
use Rattle.mh_top.proofs.vlog.write_assignments.Given as goal

abbrev pub invariant-loop-generator : goal.invariant-loop-generator
invariant-loop-generator l =
    l.out.items ≡ l.fn.out.items ++ flat_map (assignment_lines (variable_names l.fn.d.signals)) (map assignment_of (flat_map (λ g. g.body) (take l.generator-index l.fn.d.generators)))
