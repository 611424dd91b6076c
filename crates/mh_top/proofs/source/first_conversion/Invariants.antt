use Rattle.std.proofs.Common.{◌≡◌, drop}
use Rattle.mh_top.specs.Source.{first_conversion}
use Rattle.mh_top.proofs.source.first_conversion.Given as goal

abbrev pub invariant-loop-request : goal.invariant-loop-request
invariant-loop-request l = first_conversion l.requests ≡ first_conversion (drop l.request-index l.requests)
