use Rattle.std.proofs.Common.{◌∙◌, ◌||◌, ◌+◌, ◌∷◌, [], drop, slice_index_or, ap, sym}
use Rattle.std.specs.List.{flat_map}
use Rattle.std.specs.BTreeSet.{contains}
use Rattle.std.specs.Ordering.{nat_cmp}
use Rattle.mh_world.specs.View.{world}
use Rattle.mh_plans.specs.Order.{is_in}
use Rattle.mh_plans.specs.Plans as spec
use Rattle.mh_plans.proofs.SetLaws.{reads_more, used_more}
use Rattle.mh_plans.proofs.chosen.use_all.Goals as goal

pub loop-g-preserved : goal.loop-g-preserved
loop-g-preserved c = record {
  signals = λ n.
      c.loop-g.invariant.signals n
      ∙ used_more (spec.signals_used c.args.state.now.design) (spec.reads_at (world c.args.state.now) (drop c.loop-g.g-index c.args.gs.now)) (spec.reads_at (world c.args.state.now) (slice_index_or c.args.gs.now c.loop-g.g-index 0 ∷ [])) (spec.reads_at (world c.args.state.now) (drop (c.loop-g.g-index + 1) c.args.gs.now)) (contains nat_cmp c.loop-g.used.signals n) n (reads_more (world c.args.state.now) c.args.gs.now c.loop-g.g-index c.loop-g-test.true)
      ∙ ap (λ b. b || is_in (flat_map (spec.signals_used c.args.state.now.design) (spec.reads_at (world c.args.state.now) (drop (c.loop-g.g-index + 1) c.args.gs.now))) n) (sym (c.in_ok-use_number.ensures.signals n));
  mems = λ n.
      c.loop-g.invariant.mems n
      ∙ used_more spec.mems_used (spec.reads_at (world c.args.state.now) (drop c.loop-g.g-index c.args.gs.now)) (spec.reads_at (world c.args.state.now) (slice_index_or c.args.gs.now c.loop-g.g-index 0 ∷ [])) (spec.reads_at (world c.args.state.now) (drop (c.loop-g.g-index + 1) c.args.gs.now)) (contains nat_cmp c.loop-g.used.mems n) n (reads_more (world c.args.state.now) c.args.gs.now c.loop-g.g-index c.loop-g-test.true)
      ∙ ap (λ b. b || is_in (flat_map spec.mems_used (spec.reads_at (world c.args.state.now) (drop (c.loop-g.g-index + 1) c.args.gs.now))) n) (sym (c.in_ok-use_number.ensures.mems n));
  tables = λ n.
      c.loop-g.invariant.tables n
      ∙ used_more spec.tables_used (spec.reads_at (world c.args.state.now) (drop c.loop-g.g-index c.args.gs.now)) (spec.reads_at (world c.args.state.now) (slice_index_or c.args.gs.now c.loop-g.g-index 0 ∷ [])) (spec.reads_at (world c.args.state.now) (drop (c.loop-g.g-index + 1) c.args.gs.now)) (contains nat_cmp c.loop-g.used.tables n) n (reads_more (world c.args.state.now) c.args.gs.now c.loop-g.g-index c.loop-g-test.true)
      ∙ ap (λ b. b || is_in (flat_map spec.tables_used (spec.reads_at (world c.args.state.now) (drop (c.loop-g.g-index + 1) c.args.gs.now))) n) (sym (c.in_ok-use_number.ensures.tables n));
}
