use Rattle.std.proofs.Common.{◌≤◌, ◌+◌, ◌-◌, vec_len}
use Rattle.mh_host.proofs.file.read_portion.Given as goal

abbrev pub invariant-loop-into : goal.invariant-loop-into
invariant-loop-into g l = vec_len l.into ≤ l.limit + 1

abbrev pub decreases-loop-into : goal.decreases-loop-into
decreases-loop-into g l = l.limit + 1 - vec_len l.into
