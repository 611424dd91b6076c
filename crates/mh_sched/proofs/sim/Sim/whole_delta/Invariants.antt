use Rattle.std.proofs.Common.{ℕ}
use Rattle.mh_sched.specs.At.{IsAt, of_sim}
use Rattle.mh_sched.specs.Standing.{Standing}
use Rattle.mh_sched.proofs.Progress.{progress}
use Rattle.mh_sched.proofs.Until.{Going}
use Rattle.mh_sched.proofs.sim.Sim.whole_delta.Given as goal

abbrev pub invariant-loop-answer : goal.invariant-loop-answer
invariant-loop-answer l =
    (limit : ℕ) (st : Standing) → IsAt l.fn.self st → Going (of_sim l.fn.self) limit st l.fn.out.items l.out.items l.self

abbrev pub decreases-loop-answer : goal.decreases-loop-answer
decreases-loop-answer l = progress l.self
