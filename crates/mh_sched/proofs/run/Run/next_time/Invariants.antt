use Rattle.std.proofs.Common.{◌≡◌, ℕ, List}
use Rattle.std.specs.Prelude.{None}
use Rattle.mh_design.specs.Values.{Signals}
use Rattle.mh_design.specs.Deltas.{Process}
use Rattle.mh_sched.specs.Kept.{IsRun}
use Rattle.mh_sched.proofs.Looking.{next_from}
use Rattle.mh_sched.proofs.run.Run.next_time.Given as goal

abbrev pub invariant-loop-k : goal.invariant-loop-k
invariant-loop-k l =
    (time : ℕ) (s : Signals) (xs : List Process) (counts : ℕ → ℕ) → IsRun l.self time s xs counts → next_from time s 0 xs None ≡ next_from time s l.k xs l.best
