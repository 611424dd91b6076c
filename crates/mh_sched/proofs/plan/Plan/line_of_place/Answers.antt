use Rattle.std.proofs.Common.{◌∙◌, arith}
use Rattle.mh_sched.proofs.Places.{line_before, line_after}
use Rattle.mh_sched.proofs.plan.Plan.line_of_place.Goals as goal

pub returns-then-place-self : goal.returns-then-place-self
returns-then-place-self c d g w = line_before d g c.args.self.now c.args.place w (omega arith)

pub returns : goal.returns
returns c d g w = c.line_from.ensures ∙ line_after d g c.args.self.now c.args.place w (omega arith)
