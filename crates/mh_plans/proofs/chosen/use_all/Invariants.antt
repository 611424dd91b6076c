use Rattle.std.proofs.Common.{◌≡◌, ℕ, ◌||◌, drop}
use Rattle.std.specs.BTreeSet.{contains}
use Rattle.std.specs.Ordering.{nat_cmp}
use Rattle.mh_plans.specs.Order.{is_in}
use Rattle.mh_plans.specs.Plans as spec
use Rattle.mh_world.specs.View.{world}
use Rattle.mh_plans.proofs.chosen.use_all.Given as goal

abbrev pub invariant-loop-g : goal.invariant-loop-g
invariant-loop-g l = record {
  signals : (n : ℕ) → is_in (spec.all_signals_used (world l.state) (spec.reads_at (world l.state) l.gs)) n ≡ (contains nat_cmp l.used.signals n || is_in (spec.all_signals_used (world l.state) (spec.reads_at (world l.state) (drop l.g-index l.gs))) n);
  mems : (n : ℕ) → is_in (spec.all_mems_used (spec.reads_at (world l.state) l.gs)) n ≡ (contains nat_cmp l.used.mems n || is_in (spec.all_mems_used (spec.reads_at (world l.state) (drop l.g-index l.gs))) n);
  tables : (n : ℕ) → is_in (spec.all_tables_used (spec.reads_at (world l.state) l.gs)) n ≡ (contains nat_cmp l.used.tables n || is_in (spec.all_tables_used (spec.reads_at (world l.state) (drop l.g-index l.gs))) n);
}
