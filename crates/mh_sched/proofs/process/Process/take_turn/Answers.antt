use Rattle.std.proofs.Common.{◌≡◌, length, refl, sym, ap, ◌∙◌, arith}
use Rattle.mh_design.specs.Deltas.{InFault, Faults, AssertFails, TooManyTurns, AtStop, ending_of, line_of_place, place_of, waiter_at}
use Rattle.mh_sched.specs.Faults.{run_fault}
use Rattle.mh_sched.specs.Runs.{Fails}
use Rattle.mh_sched.proofs.Turning.{gone_waiters, time_after, turned_wait, turned_end, says, stops, fails}
use Rattle.mh_sched.proofs.process.Process.take_turn.Goals as goal

pub wait-requires-clause-there : goal.wait-requires-clause-there
wait-requires-clause-there c =
    let w = c.requires.stands in
    let gone = c.go_on.ensures w.design w.generator w.state w.count w.stands w.runs in
    let e = ap length (gone_waiters gone w.runs) in
    let h = c.requires.there in
    omega (arith, e, h)

pub wait-requires-clause-room : goal.wait-requires-clause-room
wait-requires-clause-room c =
    let w = c.requires.stands in
    let r = c.requires.room in
    let gone = c.go_on.ensures w.design w.generator w.state w.count w.stands w.runs in
    let e = ap (λ ws. (waiter_at (record c.args.store.now.signals { waiters = ws }) c.args.k).room) (gone_waiters gone w.runs) in
    let l = ap length (c.waited.ensures r.design r.generator r.is_plan) in
    let h = r.fits c.in-Waits.number in
    omega (arith, e, l, h)

pub returns-in-Waits : goal.returns-in-Waits
returns-in-Waits c d g x n ip st runs =
    turned_wait (c.go_on.ensures d g x n st runs) runs c.in-Waits.number c.args.k c.waited.result.now c.wait.new.self c.wait.new.store c.in-Waits.is (c.waited.ensures d g ip) c.wait.ensures.own c.wait.ensures.store

pub returns-in-Ended : goal.returns-in-Ended
returns-in-Ended c d g x n ip st runs =
    turned_end (c.go_on.ensures d g x n st runs) runs c.args.k _ c.wait-in-Ended.new.self c.wait-in-Ended.new.store c.in-Ended.is refl c.wait-in-Ended.ensures.own c.wait-in-Ended.ensures.store

pub returns-in-Says : goal.returns-in-Says
returns-in-Says c d g x n ip st runs =
    says (c.go_on.ensures d g x n st runs) runs c.in-Says.number c.args.k c.in-Says.is

pub returns-in-Stopped : goal.returns-in-Stopped
returns-in-Stopped c d g x n ip st runs =
    let gone = c.go_on.ensures d g x n st runs in
    stops gone runs AtStop c.args.k (ap (ending_of d g gone.left) c.in-Stopped.is) refl

pub returns-in-CheckFailed : goal.returns-in-CheckFailed
returns-in-CheckFailed c d g x n ip st runs =
    let gone = c.go_on.ensures d g x n st runs in
    let t = c.time.ensures ∙ time_after gone runs in
    let l = c.line_of_place.ensures d g ip in
    let f : c.plain_fault.result ≡ run_fault c.args.store.now.time (line_of_place d g c.in-CheckFailed.place) AssertFails = let e = c.plain_fault.ensures in cc in
    fails gone runs (InFault (line_of_place d g c.in-CheckFailed.place) AssertFails) c.args.k c.plain_fault.result (ap (ending_of d g gone.left) c.in-CheckFailed.is) (ap Fails (sym f))

pub returns-in-Fault : goal.returns-in-Fault
returns-in-Fault c d g x n ip st runs =
    let gone = c.go_on.ensures d g x n st runs in
    let t = c.time-in-Fault.ensures ∙ time_after gone runs in
    let l = c.line_of_place-in-Fault.ensures d g ip in
    let f : c.fault_of.result ≡ run_fault c.args.store.now.time (line_of_place d g c.in-Fault.place) (Faults c.in-Fault.fault) = let e = c.fault_of.ensures in cc in
    fails gone runs (InFault (line_of_place d g c.in-Fault.place) (Faults c.in-Fault.fault)) c.args.k c.fault_of.result (ap (ending_of d g gone.left) c.in-Fault.is) (ap Fails (sym f))

pub returns-in-TurnLimit : goal.returns-in-TurnLimit
returns-in-TurnLimit c d g x n ip st runs =
    let gone = c.go_on.ensures d g x n st runs in
    let t = c.time-in-TurnLimit.ensures ∙ time_after gone runs in
    let f : c.plain_fault-in-TurnLimit.result ≡ run_fault c.args.store.now.time (line_of_place d g (place_of gone.left)) TooManyTurns = let e = c.plain_fault-in-TurnLimit.ensures in cc in
    fails gone runs (InFault (line_of_place d g (place_of gone.left)) TooManyTurns) c.args.k c.plain_fault-in-TurnLimit.result (ap (ending_of d g gone.left) c.in-TurnLimit.is) (ap Fails (sym f))

pub wait-requires-in-Ended-clause-there : goal.wait-requires-in-Ended-clause-there
wait-requires-in-Ended-clause-there c =
    let w = c.requires.stands in
    let gone = c.go_on.ensures w.design w.generator w.state w.count w.stands w.runs in
    let e = ap length (gone_waiters gone w.runs) in
    let h = c.requires.there in
    omega (arith, e, h)
