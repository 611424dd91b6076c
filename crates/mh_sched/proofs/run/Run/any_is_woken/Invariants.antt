use Rattle.std.proofs.Common.{◌≡◌, ℕ, List, drop}
use Rattle.mh_design.specs.Values.{Signals}
use Rattle.mh_design.specs.Deltas.{Process, any_woken}
use Rattle.mh_sched.specs.Kept.{IsRun}
use Rattle.mh_sched.proofs.run.Run.any_is_woken.Given as goal

abbrev pub invariant-loop-k : goal.invariant-loop-k
invariant-loop-k l =
    (time : ℕ) (s : Signals) (xs : List Process) (counts : ℕ → ℕ) → IsRun l.self time s xs counts → any_woken s time 0 xs ≡ any_woken s time l.k (drop l.k xs)
