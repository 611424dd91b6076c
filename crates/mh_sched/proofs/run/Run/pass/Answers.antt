use Rattle.std.proofs.Common.{arith}
use Rattle.mh_sched.proofs.Arriving.{begun, step_all}
use Rattle.mh_sched.proofs.Visiting.{reached_count, some_reached, rests_on, says_on, stops_on, fails_on}
use Rattle.mh_sched.proofs.run.Run.pass.Goals as goal

pub loop-k-init : goal.loop-k-init
loop-k-init c time s xs w = begun c.args.from w

pub visit-requires-clause-there : goal.visit-requires-clause-there
visit-requires-clause-there c =
    let q = c.requires.run in
    let e = reached_count q.run (c.loop-k.invariant q.time q.signals q.states q.run) in
    omega (arith, e)

pub visit-requires-clause-run : goal.visit-requires-clause-run
visit-requires-clause-run c =
    let q = c.requires.run in
    some_reached (c.loop-k.invariant q.time q.signals q.states q.run)

pub loop-k-preserved : goal.loop-k-preserved
loop-k-preserved c time s xs w =
    let r = c.loop-k.invariant time s xs w in
    let e = reached_count w r in
    rests_on r (omega (arith, e)) _ c.in-Rests.ensures

pub returns-in-Says : goal.returns-in-Says
returns-in-Says c time s xs w =
    let r = c.loop-k.invariant time s xs w in
    let e = reached_count w r in
    says_on r (omega (arith, e)) _ c.in-Says.number w.processes c.in-Says.ensures

pub returns-in-Stops : goal.returns-in-Stops
returns-in-Stops c time s xs w =
    let r = c.loop-k.invariant time s xs w in
    let e = reached_count w r in
    stops_on r (omega (arith, e)) _ w.processes c.in-Stops.ensures

pub returns-in-Fails : goal.returns-in-Fails
returns-in-Fails c time s xs w =
    let r = c.loop-k.invariant time s xs w in
    let e = reached_count w r in
    fails_on r (omega (arith, e)) _ c.in-Fails.fault w.processes c.in-Fails.ensures

pub returns : goal.returns
returns c time s xs w =
    let n = w.count in
    step_all (c.loop-k.invariant time s xs w) (omega (arith, n)) w.processes
