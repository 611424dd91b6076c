use Rattle.std.proofs.Common.{Ok}
use Rattle.mh_world.specs.View.{world}
use Rattle.mh_elab.specs.Frames.{config}
use Rattle.mh_elab.proofs.Configs.{fails, not_final}
use Rattle.mh_elab.proofs.Ends.{never_stuck, begins_well, goes_on, answers}
use Rattle.mh_elab.proofs.execution.execute.Goals as goal

pub steps-init : goal.steps-init
steps-init c = rw (c.new.ensures.items, c.in_ok-new.ensures) (begins_well _ _ _)

pub returns-in-Ok-None : goal.returns-in-Ok-None
returns-in-Ok-None c = answers _ _ (config c.steps.c c.steps.m) (Ok (world c.step.new.m.state)) (not_final c.steps.c c.steps.m) (rw c.in-Ok-None.field-0-is at c.in-Ok-None.ensures) c.steps.invariant

pub steps-smaller : goal.steps-smaller
steps-smaller c = (goes_on _ _ (config c.steps.c c.steps.m) _ (not_final c.steps.c c.steps.m) (rw c.in-Ok-Some.field-0-is at c.in-Ok-Some.ensures) c.steps.invariant).1

pub steps-preserved : goal.steps-preserved
steps-preserved c = (goes_on _ _ (config c.steps.c c.steps.m) _ (not_final c.steps.c c.steps.m) (rw c.in-Ok-Some.field-0-is at c.in-Ok-Some.ensures) c.steps.invariant).0

pub step-requires : goal.step-requires
step-requires c = never_stuck _ _ (config c.steps.c c.steps.m) (not_final c.steps.c c.steps.m) c.steps.invariant

pub returns-in-Err : goal.returns-in-Err
returns-in-Err c = fails _ _ (config c.steps.c c.steps.m) c.in-Err.e c.step.new.m (not_final c.steps.c c.steps.m) c.in-Err.ensures c.steps.invariant
