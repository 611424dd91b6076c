use Rattle.std.proofs.Common.{◌≡◌, ◌++◌, codes, map, take}
use Rattle.std.specs.List.{flat_map}
use Rattle.mh_top.specs.Emission.{variable_names}
use Rattle.mh_top.specs.Pieces.{name_in}
use Rattle.mh_top.proofs.vlog.write_more_names.Given as goal

abbrev pub invariant-loop-port : goal.invariant-loop-port
invariant-loop-port l =
    l.out.items ≡ l.fn.out.items ++ flat_map (λ piece. codes ",\n    " ++ piece) (map (name_in (variable_names l.signals)) (take l.port-index l.ports))
