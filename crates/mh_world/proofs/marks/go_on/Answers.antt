use Rattle.std.proofs.Common.{◌∙◌, sym, refl}
use Rattle.std.proofs.lemmas.Result.{on_ok_weaker}
use Rattle.mh_world.specs.Labels.{all_work}
use Rattle.mh_world.proofs.Labels.{first_labelled, first_worked}
use Rattle.mh_world.proofs.marks.go_on.Goals as goal

pub returns-clause-same : goal.returns-clause-same
returns-clause-same c =
    on_ok_weaker c.reach.result
    (λ d. d ∙ first_labelled c.args.lists.now c.args.stack.now.items c.push.new.self.items c.args.top _ c.in_ok-own.own c.in-Some.v.now c.args.marks.now c.in_ok-push.ensures.items refl refl c.in-Some-checked_add.ensures.1 c.behind.ensures c.in_ok-own.ensures (sym c.in-Some.ensures))
    c.reach.ensures.same

pub returns-clause-work : goal.returns-clause-work
returns-clause-work c =
    on_ok_weaker c.reach.result
    (λ d. first_worked c.args.lists.now c.args.stack.now.items c.push.new.self.items c.args.top _ c.in-Some.v.now (all_work c.args.lists.now c.reach.new.stack.items) c.in_ok-push.ensures.items refl c.behind.ensures (sym c.in-Some.ensures) d)
    c.reach.ensures.work
