use Rattle.std.proofs.Common.{ap, ◌∙◌}
use Rattle.mh_sched.specs.Unsaid.{fault_unsaid}
use Rattle.mh_sched.proofs.Saying.{all_fit, all_said, all_unsaid, store_back, kept_back}
use Rattle.mh_sched.proofs.Again.{same_run}
use Rattle.mh_sched.proofs.Stepping.{kept_at}
use Rattle.mh_sched.proofs.run.Run.put_line.Goals as goal

pub put_line-said-requires : goal.put_line-said-requires
put_line-said-requires c =
    all_fit c.args.g c.args.k c.index-plan.result.now c.index_mut-process.result.now c.printed.result.now c.swap_locals.new.store c.requires.run c.requires.there c.index-plan.ensures c.index_mut-process.ensures.value c.printed.ensures c.swap_locals.ensures.store c.body_laws.ensures.prints

pub returns-in-Ok-clause-ok : goal.returns-in-Ok-clause-ok
returns-in-Ok-clause-ok c =
    all_said c.args.g c.args.k c.index-plan.result.now c.index_mut-process.result.now c.printed.result.now c.swap_locals.new.store c.requires.run c.requires.there c.index-plan.ensures c.index_mut-process.ensures.value c.printed.ensures c.swap_locals.ensures.store _ _ c.in-Ok.ensures.ok

pub returns-in-Err-clause-err : goal.returns-in-Err-clause-err
returns-in-Err-clause-err c =
    all_unsaid c.args.g c.args.k c.index-plan.result.now c.index_mut-process.result.now c.printed.result.now c.swap_locals.new.store c.requires.run c.requires.there c.index-plan.ensures c.index_mut-process.ensures.value c.printed.ensures c.swap_locals.ensures.store c.in-Err.why c.unsaid_fault.result c.line.result c.in-Err.ensures.err c.line.ensures (c.unsaid_fault.ensures ∙ ap (λ t. fault_unsaid t c.line.result c.in-Err.why) (c.time.ensures ∙ ap (λ v. v.time) (store_back c.swap_locals.ensures.own c.swap_locals.ensures.store c.swap_locals-2.ensures.store)))

pub returns-in-Ok-clause-same : goal.returns-in-Ok-clause-same
returns-in-Ok-clause-same c =
    same_run c.args.self.now c.args.g c.index_mut-process.result.now c.swap_locals-2.new.self c.swap_locals-2.new.store (store_back c.swap_locals.ensures.own c.swap_locals.ensures.store c.swap_locals-2.ensures.store) (kept_back c.swap_locals.ensures.own c.swap_locals.ensures.store c.swap_locals-2.ensures.own) (kept_at c.args.g c.requires.run c.requires.there c.index_mut-process.result.now c.index_mut-process.ensures.value)

pub returns-in-Err-clause-same : goal.returns-in-Err-clause-same
returns-in-Err-clause-same c =
    same_run c.args.self.now c.args.g c.index_mut-process.result.now c.swap_locals-2.new.self c.swap_locals-2.new.store (store_back c.swap_locals.ensures.own c.swap_locals.ensures.store c.swap_locals-2.ensures.store) (kept_back c.swap_locals.ensures.own c.swap_locals.ensures.store c.swap_locals-2.ensures.own) (kept_at c.args.g c.requires.run c.requires.there c.index_mut-process.result.now c.index_mut-process.ensures.value)
