use Rattle.std.proofs.Common.{◌≡◌, ◌++◌, map, take}
use Rattle.std.specs.List.{flat_map}
use Rattle.mh_top.specs.Emission.{port_of, variable_names}
use Rattle.mh_top.specs.VerilogText.{wire_line}
use Rattle.mh_top.proofs.vlog.write_wires.Given as goal

abbrev pub invariant-loop-port : goal.invariant-loop-port
invariant-loop-port l =
    l.out.items ≡ l.fn.out.items ++ flat_map (wire_line (variable_names l.fn.d.signals)) (map (port_of l.fn.d) (take l.port-index l.fn.d.ports))
