use Rattle.std.proofs.Common.{ℕ, List}
use Rattle.mh_design.specs.Values.{Signals}
use Rattle.mh_design.specs.Deltas.{Process}
use Rattle.mh_sched.specs.Kept.{IsRun, no_counts, design_of}
use Rattle.mh_sched.proofs.Arriving.{Reached}
use Rattle.mh_sched.proofs.run.Run.pass.Given as goal

abbrev pub invariant-loop-k : goal.invariant-loop-k
invariant-loop-k l =
    (time : ℕ) (s : Signals) (xs : List Process) → IsRun l.fn.self time s xs no_counts → Reached (design_of l.fn.self) time l.from xs s l.k l.self
