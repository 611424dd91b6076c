use Rattle.std.proofs.Common.{◌≡◌, Result, Err, List, subst, sym, rules}
use Rattle.mh_world.specs.World.{Broken}
use Rattle.mh_design.specs.declared.design.Design.{Design}
use Rattle.mh_text.specs.declared.fault.Fault.{Fault}
use Rattle.mh_world.specs.View.{world}
use Rattle.mh_plans.specs.Plans as spec
use Rattle.mh_plans.specs.Planned.{PlansAll}
use Rattle.mh_plans.proofs.DesignLaws.{next_designs, next_refused}
use Rattle.mh_plans.proofs.designs.designs_of.Goals as goal

pub returns-in_err-more : goal.returns-in_err-more
returns-in_err-more c =
    let is : c.from_residual-in_err-more.result ≡ Err c.in_err-more.field-0.0 = search rules in
    subst (λ (r : Result (List Design) (Fault Broken)). PlansAll (spec.plans_of (world c.args.state.now) c.args.tops.now) r) (sym is)
    (next_refused (world c.args.state.now) (spec.plans_of (world c.args.state.now) c.args.tops.now) c.args.tops.now c.loop-top.top-index c.loop-top.all c.in_err-more.field-0.0 c.loop-top-test.true c.loop-top.invariant c.in_err-more.ensures)

pub loop-top-preserved : goal.loop-top-preserved
loop-top-preserved c =
    next_designs (world c.args.state.now) (spec.plans_of (world c.args.state.now) c.args.tops.now) c.args.tops.now c.loop-top.top-index c.loop-top.all c.in_ok-more.more c.append.new.self c.loop-top-test.true c.loop-top.invariant c.in_ok-more.ensures c.in_ok-append.ensures
