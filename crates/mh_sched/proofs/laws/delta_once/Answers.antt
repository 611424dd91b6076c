use Rattle.mh_sched.proofs.Evaluating as evaluating
use Rattle.mh_sched.proofs.laws.delta_once.Goals as goal

pub returns : goal.returns
returns c d before o o' ls ls' after after' a b =
    let e = evaluating.delta_once c.evaluates_once.ensures d before a b in
    (cc, cc, cc)
