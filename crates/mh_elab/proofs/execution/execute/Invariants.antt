use Rattle.std.proofs.Common.{map}
use Rattle.mh_world.specs.Statements.{block, st_of}
use Rattle.mh_elab.specs.Elaboration.{executed}
use Rattle.mh_elab.specs.Frames.{config}
use Rattle.mh_elab.proofs.Ends.{Left, togo, steps_of}
use Rattle.mh_elab.proofs.execution.execute.Given as goal

abbrev pub invariant-steps : goal.invariant-steps
invariant-steps l =
    let b = block (map st_of l.fn.body) in
    Left (steps_of l.fn.limit l.fn.most b) (executed l.fn.limit l.fn.most b) (config l.c l.m)

abbrev pub decreases-steps : goal.decreases-steps
decreases-steps l = togo (steps_of l.fn.limit l.fn.most (block (map st_of l.fn.body))) (config l.c l.m)
