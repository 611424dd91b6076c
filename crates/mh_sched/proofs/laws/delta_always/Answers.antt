use Rattle.std.proofs.lemmas.List.{length-map}
use Rattle.mh_design.specs.Deltas.{first_process}
use Rattle.mh_sched.proofs.Ending as ending
use Rattle.mh_sched.proofs.laws.delta_always.Goals as goal

pub returns-clause-always : goal.returns-clause-always
returns-clause-always c d before w = ending.delta_ends c.evaluates_always.ensures d before w

pub returns-clause-first : goal.returns-clause-first
returns-clause-first c d = length-map d.generators (first_process d)
