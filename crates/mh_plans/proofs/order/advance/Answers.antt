use Rattle.std.proofs.Common.{◌∙◌, ap, sym}
use Rattle.std.specs.Prelude.{option_copied}
use Rattle.mh_plans.specs.Walks.{parts_ahead, walk_of}
use Rattle.mh_plans.proofs.AdvanceLaws.{nothing_ahead, advance_none, advance_some}
use Rattle.mh_plans.proofs.order.advance.Goals as goal

pub returns-in-None-clause-walk : goal.returns-in-None-clause-walk
returns-in-None-clause-walk c =
    advance_none c.args.instances.now (parts_ahead c.args.walk.now.ahead.items) (parts_ahead c.next.new.ahead.items) c.args.walk.now.met c.args.walk.now.found
    c.in_ok-part.ensures.rest (ap option_copied (sym c.in-None.is) ∙ c.in_ok-part.ensures.part)

pub returns-in-None-clause-ends : goal.returns-in-None-clause-ends
returns-in-None-clause-ends c h =
    nothing_ahead (parts_ahead c.args.walk.now.ahead.items) (ap option_copied (sym c.in-None.is) ∙ c.in_ok-part.ensures.part)

pub returns-in_ok-visit-in-Some-clause-walk : goal.returns-in_ok-visit-in-Some-clause-walk
returns-in_ok-visit-in-Some-clause-walk c =
    advance_some c.args.instances.now c.in-Some.v.now (parts_ahead c.args.walk.now.ahead.items) (parts_ahead c.next.new.ahead.items) c.args.walk.now.met c.args.walk.now.found (walk_of c.visit.new.walk)
    c.in_ok-part.ensures.rest (ap option_copied (sym c.in-Some.is) ∙ c.in_ok-part.ensures.part) c.in_ok-visit-in-Some.ensures
