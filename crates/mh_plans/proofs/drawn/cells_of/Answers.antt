use Rattle.mh_plans.specs.Renumbered.{number_in}
use Rattle.mh_plans.specs.View.{chosen_of}
use Rattle.mh_plans.proofs.MapLaws.{map_more}
use Rattle.mh_plans.proofs.drawn.cells_of.Goals as goal

pub loop-n-preserved : goal.loop-n-preserved
loop-n-preserved c =
    map_more (number_in (chosen_of c.args.k.now).signals) c.args.cells.now c.loop-n.all c.push.new.self c.loop-n.n-index c.signal_in.result c.loop-n-test.true c.loop-n.invariant c.signal_in.ensures c.in_ok-push.ensures.ok
