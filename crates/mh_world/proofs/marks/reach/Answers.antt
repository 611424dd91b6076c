use Rattle.std.proofs.Common.{◌^◌, arith}
use Rattle.std.proofs.lemmas.Result.{on_ok_weaker}
use Rattle.mh_world.specs.Labels.{all_work, base}
use Rattle.mh_world.proofs.Labels.{some_power, under_power, more_steps, fewer_steps}
use Rattle.mh_world.proofs.marks.reach.Goals as goal

pub returns-in-Signal-clause-work : goal.returns-in-Signal-clause-work
returns-in-Signal-clause-work c =
    on_ok_weaker c.label_signal.result (λ d. more_steps (all_work c.args.lists.now c.args.stack.now.items) (base c.args.lists.now ^ c.args.depth) (some_power c.args.lists.now c.args.depth)) c.label_signal.ensures

pub returns-in-List-clause-work : goal.returns-in-List-clause-work
returns-in-List-clause-work c =
    on_ok_weaker c.go_into.result (λ d. fewer_steps _ _ _ _ d (under_power c.args.lists.now c.in-List.n c.args.depth (omega arith))) c.go_into.ensures.work
