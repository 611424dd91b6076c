use Rattle.std.proofs.Common.{ℕ, ◌∙◌, ap}
use Rattle.mh_world.specs.View.{world}
use Rattle.mh_plans.specs.Plans as spec
use Rattle.mh_plans.proofs.SetLaws.{same_chosen}
use Rattle.mh_plans.proofs.chosen.choose.Goals as goal

pub returns : goal.returns
returns c =
    same_chosen
    (c.in_ok-signals.ensures (spec.all_signals_used (world c.args.state.now) (spec.reads_at (world c.args.state.now) c.args.gs.now)) c.in_ok-used.ensures.signals ∙ ap (λ (n : ℕ). spec.signals_from c.args.ports.now (spec.used_below n (spec.all_signals_used (world c.args.state.now) (spec.reads_at (world c.args.state.now) c.args.gs.now)))) c.len.ensures)
    (c.in_ok-mems.ensures (spec.all_mems_used (spec.reads_at (world c.args.state.now) c.args.gs.now)) c.in_ok-used.ensures.mems ∙ ap (λ (n : ℕ). spec.used_below n (spec.all_mems_used (spec.reads_at (world c.args.state.now) c.args.gs.now))) c.len-2.ensures)
    (c.in_ok-tables.ensures (spec.all_tables_used (spec.reads_at (world c.args.state.now) c.args.gs.now)) c.in_ok-used.ensures.tables ∙ ap (λ (n : ℕ). spec.used_below n (spec.all_tables_used (spec.reads_at (world c.args.state.now) c.args.gs.now))) c.len-3.ensures)
