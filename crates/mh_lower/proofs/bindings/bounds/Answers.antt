use Rattle.std.proofs.lemmas.Int.{to_z-of_z}
use Rattle.std.specs.Int.{w128}
use Rattle.mh_consts.proofs.BoundsMade.{bounds_of-made}
use Rattle.mh_lower.proofs.bindings.bounds.Goals as goal

pub returns : goal.returns
returns c = bounds_of-made c.new.result _ c.args.lo _ c.args.top c.args.wraps (to_z-of_z w128 c.args.lo c.ranges.lo) (to_z-of_z w128 c.args.top c.ranges.top) c.new.ensures.some c.new.ensures.fields
