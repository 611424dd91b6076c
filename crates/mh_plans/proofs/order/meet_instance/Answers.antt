use Rattle.std.proofs.Common.{◌∙◌, ap, sym, refl}
use Rattle.std.proofs.lemmas.Option.{slice_get_read, slice_get_past}
use Rattle.mh_plans.proofs.WalkLaws.{met_there, met_nowhere}
use Rattle.mh_plans.proofs.order.meet_instance.Goals as goal

pub returns-in_ok-push-in-Some : goal.returns-in_ok-push-in-Some
returns-in_ok-push-in-Some c =
    met_there c.args.instances.now c.args.i c.in-Some.x.now c.args.walk.now.ahead.items c.push.new.self.items c.as_slice.result c.args.walk.now.met c.add.new.self c.args.walk.now.found
    (sym c.has.ensures ∙ c.if-has.false) c.in_ok-add.ensures
    (slice_get_read c.args.instances.now _ c.args.i c.in-Some.x.now refl c.in-Some.ensures.lookup.3.0 c.in-Some.ensures.lookup.1)
    c.as_slice.ensures c.in_ok-push-in-Some.ensures.items

pub returns-in-None : goal.returns-in-None
returns-in-None c =
    met_nowhere c.args.instances.now c.args.i c.args.walk.now.ahead.items c.args.walk.now.met c.add.new.self c.args.walk.now.found
    (sym c.has.ensures ∙ c.if-has.false) c.in_ok-add.ensures
    (slice_get_past c.args.instances.now c.args.i c.in-None.ensures.lookup.3)
