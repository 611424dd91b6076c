use Rattle.std.proofs.Common.{◌≡◌, ◌++◌, map, drop}
use Rattle.mh_design.specs.Deltas.{first_local}
use Rattle.mh_gen.proofs.locals.all_first.Given as goal

abbrev pub invariant-loop-local : goal.invariant-loop-local
invariant-loop-local l =
    map (first_local l.d) l.locals
    ≡ l.all ++ map (first_local l.d) (drop l.local-index l.locals)
