use Rattle.std.proofs.Common.{refl}
use Rattle.mh_sched.specs.Kept.{no_counts}
use Rattle.mh_sched.proofs.Stepping.{none_here}
use Rattle.mh_sched.proofs.run.Run.visit.Goals as goal

pub returns-then-is_woken : goal.returns-then-is_woken
returns-then-is_woken c time s xs g x w eg ex = record {
  woken = λ e. c.turn.ensures time s xs 0 g x (none_here c.args.k w) eg ex;
  asleep = λ e. let z = c.is_woken.ensures time s xs no_counts x w ex in let t = c.if-is_woken.true in absurd cc;
}

pub returns-else-is_woken : goal.returns-else-is_woken
returns-else-is_woken c time s xs g x w eg ex = record {
  woken = λ e. let z = c.is_woken.ensures time s xs no_counts x w ex in let t = c.if-is_woken.false in absurd cc;
  asleep = λ e. (refl, refl);
}
