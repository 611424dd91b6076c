use Rattle.std.proofs.Common.{◌≡◌, ◌++◌, drop}
use Rattle.mh_lower.specs.Paths.{on_both}
use Rattle.mh_lower.proofs.paths.on_both.Given as goal

abbrev pub invariant-loop-x : goal.invariant-loop-x
invariant-loop-x l = l.both ++ on_both (drop l.x-index l.a) l.rest ≡ on_both l.a l.b
