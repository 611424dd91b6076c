use Rattle.std.proofs.Common.{◌≡◌, drop, map}
use Rattle.mh_world.specs.Frozen.{freeze}
use Rattle.mh_world.specs.View.{world}
use Rattle.mh_world.proofs.state.State.freeze.Given as goal

abbrev pub invariant-loop-t : goal.invariant-loop-t
invariant-loop-t l = freeze (map (λ t. t.now) (drop l.t-index l.ts)) (world l.self) ≡ freeze (map (λ t. t.now) l.ts) (world l.fn.self)
