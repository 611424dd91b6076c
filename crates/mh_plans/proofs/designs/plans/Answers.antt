use Rattle.std.proofs.Common.{◌≡◌, ◌∙◌, ap, Result, Err, map, subst, sym, rules}
use Rattle.mh_world.specs.World.{Broken}
use Rattle.mh_text.specs.declared.fault.Fault.{Fault}
use Rattle.mh_world.specs.View.{world}
use Rattle.mh_plans.specs.declared.designs.Elaborated.{Elaborated}
use Rattle.mh_plans.specs.Plans as spec
use Rattle.mh_plans.specs.Planned.{plan_of, Plans}
use Rattle.mh_plans.proofs.DesignLaws.{all_made, all_refused}
use Rattle.mh_plans.proofs.designs.plans.Goals as goal

pub returns-in_err-designs : goal.returns-in_err-designs
returns-in_err-designs c =
    let is : c.from_residual-in_err-designs.result ≡ Err c.in_err-designs.field-0.0 = search rules in
    subst (λ (r : Result Elaborated (Fault Broken)). Plans (spec.plans (world c.args.state.now)) r) (sym is)
    (all_refused (world c.args.state.now) c.as_slice.result.now c.in_err-designs.field-0.0 (c.as_slice.ensures ∙ c.in_ok-tops.ensures) c.in_err-designs.ensures)

pub returns : goal.returns
returns c =
    all_made (world c.args.state.now) c.as_slice.result.now (map plan_of c.in_ok-designs.designs) c.in_ok-requests.requests (c.as_slice.ensures ∙ c.in_ok-tops.ensures) c.in_ok-designs.ensures
    (c.in_ok-requests.ensures ∙ ap (λ ts. map (spec.request_of ts) c.args.state.now.requests) (sym c.as_slice.ensures))
