use Rattle.std.proofs.Common.{arith}
use Rattle.mh_plans.specs.Walks.{walk_of}
use Rattle.mh_plans.proofs.AdvanceLaws.{go_more, go_ends}
use Rattle.mh_plans.proofs.order.go.Goals as goal

pub returns-then-not-more : goal.returns-then-not-more
returns-then-not-more c =
    go_ends c.loop-turn.turn c.args.most c.args.instances.now (walk_of c.args.walk.now) (walk_of c.loop-turn.walk) (walk_of c.advance.new.walk) (omega arith)
    c.loop-turn.invariant (c.in_ok-more.ensures.ends c.if-not-more.true) c.in_ok-more.ensures.walk

pub loop-turn-preserved : goal.loop-turn-preserved
loop-turn-preserved c =
    go_more c.loop-turn.turn c.args.instances.now (walk_of c.args.walk.now) (walk_of c.loop-turn.walk) (walk_of c.advance.new.walk) c.loop-turn.invariant c.in_ok-more.ensures.walk
