use Rattle.std.proofs.Common.{◌≡◌, ◌++◌, drop, map}
use Rattle.mh_lower.specs.Paths.{no_kind}
use Rattle.mh_lower.proofs.paths.no_kinds.Given as goal

abbrev pub invariant-loop-name : goal.invariant-loop-name
invariant-loop-name l = l.kinds ++ map (λ t. no_kind) (drop l._name-index l.names) ≡ map (λ t. no_kind) l.names
