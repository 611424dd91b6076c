use Rattle.std.proofs.Common.{◌≡◌, drop}
use Rattle.mh_top.specs.Simulated.{first_run}
use Rattle.mh_top.proofs.source.first_run.Given as goal

abbrev pub invariant-loop-request : goal.invariant-loop-request
invariant-loop-request l = first_run l.requests ≡ first_run (drop l.request-index l.requests)
