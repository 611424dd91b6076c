use Rattle.std.proofs.Common.{◌≡◌, drop, length, nat_lt}
use Rattle.std.specs.List.{list_all}
use Rattle.mh_design.proofs.validity.ports_fit.Given as goal

abbrev pub invariant-loop-port : goal.invariant-loop-port
invariant-loop-port l =
    list_all (λ p. nat_lt p (length l.d.signals)) l.ports
    ≡ list_all (λ p. nat_lt p (length l.d.signals)) (drop l.port-index l.ports)
