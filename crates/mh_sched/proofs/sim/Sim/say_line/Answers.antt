use Rattle.std.proofs.Common.{ap, ◌∙◌}
use Rattle.mh_sched.proofs.Calling.{inside_below, some_inside, said_ok, said_err}
use Rattle.mh_sched.proofs.sim.Sim.say_line.Goals as goal

pub put_line-requires-clause-there : goal.put_line-requires-clause-there
put_line-requires-clause-there c = inside_below c.args.self.now c.requires.0 c.args.g c.requires.1 c.requires.2

pub put_line-requires-clause-run : goal.put_line-requires-clause-run
put_line-requires-clause-run c = some_inside c.args.self.now c.requires.0 c.args.g c.requires.1 c.requires.2

pub returns-in-Ok : goal.returns-in-Ok
returns-in-Ok c m n w =
    said_ok c.args.self.now _ m c.args.g n c.args.k _ _ _ w c.in-Ok.ensures.ok (ap (λ r. record c.args.self.now { run = r }) c.in-Ok.ensures.same)

pub returns-in-Err : goal.returns-in-Err
returns-in-Err c m n w =
    said_err c.args.self.now _ m c.args.g n c.args.k _ _ c.in-Err.fault w c.in-Err.ensures.err c.in-Err.ensures.unchanged (c.end_by.ensures.run ∙ c.in-Err.ensures.same) c.end_by.ensures.deltas c.end_by.ensures.phase
