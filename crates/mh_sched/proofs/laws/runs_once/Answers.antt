use Rattle.mh_sched.proofs.Running as running
use Rattle.mh_sched.proofs.laws.runs_once.Goals as goal

pub returns : goal.returns
returns c d limit m r r' ls ls' rows rows' n n' a b =
    let e = running.runs_once c.evaluates_once.ensures d limit m a b in
    (cc, cc, cc, cc)
