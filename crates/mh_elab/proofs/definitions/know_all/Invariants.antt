use Rattle.std.proofs.Common.{◌≡◌, drop}
use Rattle.mh_elab.specs.Views.{texts}
use Rattle.mh_world.specs.Seen.{known_onto}
use Rattle.mh_world.specs.View.{world}
use Rattle.mh_elab.proofs.definitions.know_all.Given as goal

abbrev pub invariant-loop-t : goal.invariant-loop-t
invariant-loop-t l = known_onto (world l.state) l.names (texts (drop l.t-index l.ts)) ≡ known_onto (world l.state) l.fn.names (texts l.ts)
