use Rattle.std.proofs.Common.{Option, subst, sym}
use Rattle.mh_world.specs.declared.kinds.Instance.{Instance}
use Rattle.mh_world.specs.View.{world}
use Rattle.mh_plans.specs.Plans as spec
use Rattle.mh_plans.specs.Planned.{PlansAll}
use Rattle.mh_plans.proofs.DesignLaws.{nowhere}
use Rattle.mh_plans.proofs.designs.designs_at.Goals as goal

pub returns-in-Some : goal.returns-in-Some
returns-in-Some c =
    subst (λ (o : Option Instance). PlansAll (spec.plan_at (world c.args.state.now) c.args.top o) c.one_design.result) c.in-Some.ensures c.one_design.ensures

pub returns-in-None : goal.returns-in-None
returns-in-None c =
    nowhere (world c.args.state.now) c.args.top c.new.result (sym c.in-None.ensures) c.new.ensures
