use Rattle.std.proofs.Common.{◌∙◌, ap}
use Rattle.std.specs.Prelude.{filter}
use Rattle.std.specs.Ordering.{nat_cmp}
use Rattle.std.specs.BTreeSet.{contains}
use Rattle.mh_plans.specs.Order.{is_in}
use Rattle.mh_plans.specs.Plans.{below, each_once}
use Rattle.mh_plans.proofs.NumberLaws.{ports_then}
use Rattle.mh_plans.proofs.chosen.signals_from.Goals as goal

pub returns : goal.returns
returns c others h =
    c.in_ok-add_in_order.ensures
    ∙ (ap (λ ns. each_once ns (filter (contains nat_cmp c.args.used.now) (below c.args.count))) (c.in_ok-add_all.ensures ∙ ap (λ ns. each_once ns c.args.ports.now) c.new-signals.ensures)
    ∙ ports_then c.args.ports.now (contains nat_cmp c.args.used.now) (is_in others) c.args.count h)
