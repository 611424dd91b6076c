use Rattle.std.proofs.Common.{◌≡◌, ◌≤◌, drop, pos}
use Rattle.mh_consts.specs.Builtins as spec
use Rattle.mh_consts.proofs.builtins.joined.Given as goal

abbrev pub invariant-loop-v : goal.invariant-loop-v
invariant-loop-v l = record {
  narrow : l.all.0 ≤ 127;
  same : spec.joined l.all.0 l.all.1 (drop l.v-index l.parts) ≡ spec.joined 0 (pos 0) l.parts;
}
