use Rattle.std.proofs.Common.{◌≡◌, ◌∙◌, ◌<◌, ◌≤◌, ℕ, List, Result, length, subst, sym, ap, arith}
use Rattle.mh_world.specs.World.{Broken}
use Rattle.mh_design.specs.declared.design.Design.{Design}
use Rattle.mh_text.specs.declared.fault.Fault.{Fault}
use Rattle.mh_world.specs.View.{world}
use Rattle.mh_plans.specs.Order.{generators_of}
use Rattle.mh_plans.specs.Plans as spec
use Rattle.mh_plans.specs.Planned.{Planned}
use Rattle.mh_plans.proofs.DesignLaws.{many_plan}
use Rattle.mh_plans.proofs.designs.design_of.Goals as goal

pub returns-then-count-gt-MOST_GENERATORS : goal.returns-then-count-gt-MOST_GENERATORS
returns-then-count-gt-MOST_GENERATORS c =
    let counted : c.made_count-count.result ≡ length (spec.reads_at (world c.args.state.now) (generators_of (world c.args.state.now) c.args.top)) =
    c.made_count-count.ensures ∙ ap (λ gs. length (spec.reads_at (world c.args.state.now) gs)) (c.as_slice.ensures ∙ c.in_ok-gs.ensures) in
    subst (λ (r : Result Design (Fault Broken)). Planned (spec.fitting (spec.plan (world c.args.state.now) c.args.top c.args.x.now)) r) (sym c.refuse.ensures)
    (many_plan (world c.args.state.now) c.args.top c.args.x.now (spec.reads_at (world c.args.state.now) (generators_of (world c.args.state.now) c.args.top)) (omega (arith, counted)))

pub design_with-requires : goal.design_with-requires
design_with-requires c =
    let same : length (spec.reads_at (world c.args.state.now) c.as_slice-2.result.now) ≡ c.made_count-count.result =
    ap (λ gs. length (spec.reads_at (world c.args.state.now) gs)) (c.as_slice-2.ensures ∙ sym c.as_slice.ensures) ∙ sym c.made_count-count.ensures in
    omega (arith, same)

pub returns : goal.returns
returns c =
    subst (λ (gs : List ℕ). Planned (spec.fitting (spec.plan_with (world c.args.state.now) c.args.top c.args.x.now (spec.reads_at (world c.args.state.now) gs))) c.design_with.result) (c.as_slice-2.ensures ∙ c.in_ok-gs.ensures) c.design_with.ensures
