use Rattle.std.proofs.Common.{◌≡◌, ◌++◌, drop}
use Rattle.mh_design.proofs.uses.add_all.Given as goal

abbrev pub invariant-loop-signal : goal.invariant-loop-signal
invariant-loop-signal l =
    l.fn.found ++ l.signals
    ≡ l.found ++ (drop l.signal-index l.signals)
