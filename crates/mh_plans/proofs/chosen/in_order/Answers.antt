use Rattle.std.proofs.Common.{◌∙◌, ap}
use Rattle.std.specs.Prelude.{filter}
use Rattle.std.specs.Ordering.{nat_cmp}
use Rattle.std.specs.BTreeSet.{contains}
use Rattle.mh_plans.specs.Order.{is_in}
use Rattle.mh_plans.specs.Plans.{below, each_once}
use Rattle.mh_plans.proofs.NumberLaws.{set_in_order}
use Rattle.mh_plans.proofs.chosen.in_order.Goals as goal

pub returns : goal.returns
returns c others h =
    c.in_ok-add_in_order.ensures
    ∙ (ap (λ ns. each_once ns (filter (contains nat_cmp c.args.used.now) (below c.args.count))) c.new-numbers.ensures
    ∙ set_in_order (contains nat_cmp c.args.used.now) (is_in others) c.args.count h)
