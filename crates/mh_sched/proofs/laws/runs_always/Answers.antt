use Rattle.mh_sched.proofs.Closing as closing
use Rattle.mh_sched.proofs.laws.runs_always.Goals as goal

pub returns : goal.returns
returns c d limit m w = closing.runs c.evaluates_always.ensures d limit m w
