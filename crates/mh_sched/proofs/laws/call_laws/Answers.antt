use Rattle.mh_sched.proofs.Driving as driving
use Rattle.mh_sched.proofs.laws.call_laws.Goals as goal

pub returns-clause-calls : goal.returns-clause-calls
returns-clause-calls c d limit before after a h = driving.means d limit h

pub returns-clause-times : goal.returns-clause-times
returns-clause-times c d limit m w = driving.means_time d limit m w
