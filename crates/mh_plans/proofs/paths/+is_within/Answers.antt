use Rattle.std.proofs.Common.{◌∙◌, ◌-◌, Option, Some, None, ap, sym, refl, arith}
use Rattle.std.specs.Prelude.{is_some}
use Rattle.std.proofs.lemmas.Option.{slice_get_read, slice_get_past}
use Rattle.mh_plans.specs.Paths.{names_from}
use Rattle.mh_plans.proofs.PathLaws.{names_none, names_lost, within_step}
use Rattle.mh_plans.proofs.paths.+is_within.Goals as goal

pub returns-in-Some-get : goal.returns-in-Some-get
returns-in-Some-get t c =
    c.is_within.ensures
    ∙ sym (within_step c.args.most c.args.instances.now c.args.top c.in-Some.i c.args.inside c.in-Some-get.x.now (omega arith) c.in-Some.is c.if-i-top.false (slice_get_read c.args.instances.now _ c.in-Some.i c.in-Some-get.x.now refl c.in-Some-get.ensures.lookup.3.0 c.in-Some-get.ensures.lookup.1))

pub returns-in-None : goal.returns-in-None
returns-in-None t c =
    c.is_within-in-None.ensures
    ∙ ap is_some (names_none (c.args.most - 1) c.args.instances.now c.args.top)
    ∙ ap is_some (sym (names_lost c.args.most c.args.instances.now c.args.top c.in-Some.i c.args.inside (omega arith) c.in-Some.is c.if-i-top.false (slice_get_past c.args.instances.now c.in-Some.i c.in-None.ensures.lookup.3)))
