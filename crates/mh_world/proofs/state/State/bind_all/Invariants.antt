use Rattle.std.proofs.Common.{◌≡◌, drop}
use Rattle.mh_world.specs.Functions as functions
use Rattle.mh_world.specs.View.{world}
use Rattle.mh_world.proofs.state.State.bind_all.Given as goal

abbrev pub invariant-loop-b : goal.invariant-loop-b
invariant-loop-b l = functions.bind_all (drop l.b-index l.bs) (world l.self) ≡ functions.bind_all l.bs (world l.fn.self)
