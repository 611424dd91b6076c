use Rattle.std.proofs.Common.{◌≡◌, length, ap, ◌∙◌, subst, arith}
use Rattle.mh_sched.proofs.Preparing.{Prepared, none_at_start, prepared_on, first_run}
use Rattle.mh_sched.proofs.run.Run.new.Goals as goal

pub loop-number-init : goal.loop-number-init
loop-number-init c = none_at_start c.args.d.now _ _ c.new-plans.ensures.items c.new-processes.ensures.items

pub loop-number-preserved : goal.loop-number-preserved
loop-number-preserved c =
    prepared_on c.in_ok-plan.plan c.in_ok-process.process c.loop-number.invariant c.in_ok-push.ensures.items c.in_ok-push-2.ensures.items c.in_ok-plan.ensures.plan c.in_ok-process.ensures

pub returns-clause-run : goal.returns-clause-run
returns-clause-run c =
    let e : c.loop-number.number ≡ length c.args.d.now.generators = omega (arith, c.generator_count-count.ensures) in
    first_run c.args.d.now _ c.requires (subst (λ n. Prepared c.args.d.now c.loop-number.plans.items c.loop-number.processes.items n) e c.loop-number.invariant) (ap (λ s. s.design) c.new-4.ensures) (ap (λ s. s.signals) c.new-4.ensures ∙ c.in_ok-signals.ensures) (ap (λ s. s.time) c.new-4.ensures) c.generator_count-count.ensures

pub returns-clause-design : goal.returns-clause-design
returns-clause-design c = ap (λ s. s.design) c.new-4.ensures
