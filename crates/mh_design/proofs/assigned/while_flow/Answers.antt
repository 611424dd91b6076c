use Rattle.std.proofs.Common.{ap, ◌∙◌}
use Rattle.mh_design.specs.Assigned.{while_flow}
use Rattle.mh_design.specs.Assigned as spec
use Rattle.mh_design.proofs.assigned.while_flow.Goals as goal

pub returns : goal.returns
unfolding while_flow
returns c =
    c.after_reading.ensures
    ∙ (ap (λ b. spec.after_reading b c.looped.result) (c.is_sound-sound.ensures ∙ ap (spec.is_sound c.args.assigned) c.reads_local.ensures)
    ∙ ap (spec.after_reading _) c.looped.ensures)
