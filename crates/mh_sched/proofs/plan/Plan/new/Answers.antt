use Rattle.std.proofs.Common.{sym, subst}
use Rattle.mh_flat.specs.Flat.{IsCodeOf}
use Rattle.mh_design.specs.Bodies.{generator_flow}
use Rattle.mh_sched.proofs.plan.Plan.new.Goals as goal

pub returns-clause-code : goal.returns-clause-code
returns-clause-code c g e =
    subst (λ v. IsCodeOf (generator_flow c.args.d.now g) v.code) (sym c.in_ok-plan.ensures.code) (c.in_ok-code.ensures g e)
