use Rattle.mh_sched.specs.At.{IsAt, of_sim, left_until}
use Rattle.mh_sched.specs.Standing.{Standing}
use Rattle.mh_sched.proofs.Finishing.{Runs}
use Rattle.mh_sched.proofs.sim.Sim.run_until.Given as goal

abbrev pub invariant-loop-answer : goal.invariant-loop-answer
invariant-loop-answer l =
    (st : Standing) → IsAt l.fn.self st → Runs (of_sim l.fn.self) l.t st l.fn.out.items l.out.items l.self

abbrev pub decreases-loop-answer : goal.decreases-loop-answer
decreases-loop-answer l = left_until l.t l.self
