use Rattle.std.proofs.Common.{◌≡◌, drop}
use Rattle.mh_plans.specs.Paths as spec
use Rattle.mh_plans.proofs.paths.tuple_label.Given as goal

abbrev pub invariant-loop-t : goal.invariant-loop-t
invariant-loop-t l = spec.tuple_label l.tuples l.zs ≡ spec.tuple_label (drop l.t-index l.tuples) l.zs
