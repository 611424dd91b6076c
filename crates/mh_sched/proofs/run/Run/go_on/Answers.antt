use Rattle.mh_sched.proofs.Visiting.{some_halfway, resting_after, below_after, rests_go, says_go, stops_go, fails_go}
use Rattle.mh_sched.proofs.run.Run.go_on.Goals as goal

pub turn-requires-clause-run : goal.turn-requires-clause-run
turn-requires-clause-run c = some_halfway c.requires.run

pub pass-requires-clause-there : goal.pass-requires-clause-there
pass-requires-clause-there c = below_after c.requires.run.count c.requires.run.run c.requires.there _ c.in-Rests.ensures

pub pass-requires-clause-run : goal.pass-requires-clause-run
pass-requires-clause-run c = resting_after c.requires.run.count c.requires.run.run c.requires.there _ c.in-Rests.ensures

pub returns-in-Rests : goal.returns-in-Rests
returns-in-Rests c time s xs n w = rests_go n w c.requires.there _ c.in-Rests.ensures c.pass.ensures

pub returns-in-Says : goal.returns-in-Says
returns-in-Says c time s xs n w = says_go n w c.requires.there _ c.in-Says.number c.in-Says.ensures

pub returns-in-Stops : goal.returns-in-Stops
returns-in-Stops c time s xs n w = stops_go n w c.requires.there _ c.in-Stops.ensures

pub returns-in-Fails : goal.returns-in-Fails
returns-in-Fails c time s xs n w = fails_go n w c.requires.there _ c.in-Fails.fault c.in-Fails.ensures
