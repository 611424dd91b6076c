use Rattle.std.proofs.Common.{◌≡◌, ◌∙◌, ◌++◌, ◌∷◌, [], List, Result, Some, Err, subst, sym, ap, rules}
use Rattle.mh_world.specs.World.{Broken}
use Rattle.mh_design.specs.declared.design.Design.{Design}
use Rattle.mh_text.specs.declared.fault.Fault.{Fault}
use Rattle.mh_world.specs.View.{world}
use Rattle.mh_plans.specs.Plans as spec
use Rattle.mh_plans.specs.Planned.{PlansAll}
use Rattle.mh_plans.proofs.DesignLaws.{one_made, one_refused}
use Rattle.mh_plans.proofs.designs.one_design.Goals as goal

pub returns-in_err-d : goal.returns-in_err-d
returns-in_err-d c =
    let is : c.from_residual.result ≡ Err c.in_err-d.field-0.0 = search rules in
    subst (λ (r : Result (List Design) (Fault Broken)). PlansAll (spec.plan_at (world c.args.state.now) c.args.top (Some c.args.x.now)) r) (sym is)
    (one_refused (world c.args.state.now) c.args.top c.args.x.now c.in_err-d.field-0.0 c.in_err-d.ensures)

pub returns : goal.returns
returns c =
    one_made (world c.args.state.now) c.args.top c.args.x.now c.in_ok-d.d c.push.new.self c.in_ok-d.ensures
    (c.in_ok-push.ensures.ok ∙ ap (λ (ds : List Design). ds ++ c.in_ok-d.d ∷ []) c.new-all.ensures)
