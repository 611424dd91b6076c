use Rattle.std.proofs.Common.{◌≡◌, drop, None}
use Rattle.std.specs.Prelude.{option_copied}
use Rattle.mh_world.specs.Seen as spec
use Rattle.mh_world.proofs.frames.last_in.Given as goal

abbrev pub invariant-loop-binding : goal.invariant-loop-binding
invariant-loop-binding l = spec.last_in (drop l.binding-index l.inner) l.t (option_copied l.found) ≡ spec.last_in l.inner l.t None
