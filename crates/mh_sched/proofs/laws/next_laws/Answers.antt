use Rattle.mh_sched.proofs.Events as events
use Rattle.mh_sched.proofs.laws.next_laws.Goals as goal

pub returns-clause-some : goal.returns-clause-some
returns-clause-some c = events.next_iff

pub returns-clause-none : goal.returns-clause-none
returns-clause-none c = events.none_iff
