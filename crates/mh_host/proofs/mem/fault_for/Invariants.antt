use Rattle.std.proofs.Common.{◌≡◌, drop}
use Rattle.mh_host.specs.MemShelf.{fault_at}
use Rattle.mh_host.proofs.mem.fault_for.Given as goal

-- no fault so far is meant for the call
abbrev pub invariant-loop-fault : goal.invariant-loop-fault
invariant-loop-fault l = fault_at (drop l.fault-index l.to_fail) l.call ≡ fault_at l.to_fail l.call
