use Rattle.std.proofs.Common.{◌≡◌, ◌++◌, false, drop, map}
use Rattle.mh_lower.proofs.paths.none_assigned.Given as goal

abbrev pub invariant-loop-name : goal.invariant-loop-name
invariant-loop-name l = l.assigned ++ map (λ t. false) (drop l._name-index l.names) ≡ map (λ t. false) l.names
