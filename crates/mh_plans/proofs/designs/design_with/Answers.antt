use Rattle.std.proofs.Common.{◌∙◌, Result, subst, sym, ap}
use Rattle.mh_world.specs.World.{Broken}
use Rattle.mh_design.specs.declared.design.Design.{Design}
use Rattle.mh_text.specs.declared.fault.Fault.{Fault}
use Rattle.mh_world.specs.View.{world}
use Rattle.mh_plans.specs.Paths.{ports_in}
use Rattle.mh_plans.specs.Plans as spec
use Rattle.mh_plans.specs.Planned.{Planned}
use Rattle.mh_plans.specs.View.{chosen_of}
use Rattle.mh_plans.proofs.DesignLaws.{made_plan, large_plan}
use Rattle.mh_plans.proofs.designs.design_with.Goals as goal

pub returns-then-not-fits : goal.returns-then-not-fits
returns-then-not-fits c =
    subst (λ (r : Result Design (Fault Broken)). Planned (spec.fitting (spec.plan_with (world c.args.state.now) c.args.top c.args.x.now (spec.reads_at (world c.args.state.now) c.args.gs.now))) r) (sym c.refuse.ensures)
    (large_plan (world c.args.state.now) c.args.top c.args.x.now (spec.reads_at (world c.args.state.now) c.args.gs.now) c.as_slice-2.result.now (chosen_of c.in_ok-k.k) c.in_ok-d.d c.in_ok-fits.fits
    c.requires (c.as_slice-2.ensures ∙ c.in_ok-ports.ensures ∙ ap ports_in c.as_slice.ensures) c.in_ok-k.ensures c.in_ok-d.ensures c.in_ok-fits.ensures c.if-not-fits.true)

pub returns : goal.returns
returns c =
    made_plan (world c.args.state.now) c.args.top c.args.x.now (spec.reads_at (world c.args.state.now) c.args.gs.now) c.as_slice-2.result.now (chosen_of c.in_ok-k.k) c.in_ok-d.d c.in_ok-generators.generators c.in_ok-fits.fits
    c.requires (c.as_slice-2.ensures ∙ c.in_ok-ports.ensures ∙ ap ports_in c.as_slice.ensures) c.in_ok-k.ensures c.in_ok-d.ensures c.in_ok-fits.ensures c.if-not-fits.false c.in_ok-generators.ensures
