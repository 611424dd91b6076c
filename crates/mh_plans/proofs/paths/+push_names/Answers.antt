use Rattle.std.proofs.Common.{◌≡◌, ◌∙◌, ◌-◌, ◌<◌, ◌++◌, true, Option, Some, None, ap, sym, refl, arith}
use Rattle.std.specs.Prelude.{is_some}
use Rattle.std.proofs.lemmas.List.{append-nil}
use Rattle.std.proofs.lemmas.Option.{slice_get_read, slice_get_past}
use Rattle.mh_plans.specs.Paths.{instance_name, names_from, words_before}
use Rattle.mh_plans.proofs.PathLaws.{names_step, names_lost, pushed, within_step}
use Rattle.mh_plans.proofs.paths.+push_names.Goals as goal

pub push_names-requires : goal.push_names-requires
push_names-requires t c =
    let less : c.args.most - 1 < t = omega arith in
    (less, sym (within_step c.args.most c.args.instances.now c.args.top c.in-Some.i c.args.inside c.in-Some-get.x.now (omega arith) c.in-Some.is c.if-i-top.false (slice_get_read c.args.instances.now _ c.in-Some.i c.in-Some-get.x.now refl c.in-Some-get.ensures.lookup.3.0 c.in-Some-get.ensures.lookup.1)) ∙ c.requires)

pub returns-in_ok-push-in-Some-get : goal.returns-in_ok-push-in-Some-get
returns-in_ok-push-in-Some-get t c =
    let there = slice_get_read c.args.instances.now _ c.in-Some.i c.in-Some-get.x.now refl c.in-Some-get.ensures.lookup.3.0 c.in-Some-get.ensures.lookup.1 in
    pushed c.args.words.now.items c.push_names.new.words.items c.extend_from_slice.new.self.items c.push.new.self.items (instance_name c.in-Some-get.x.now) (names_from (c.args.most - 1) c.args.instances.now c.args.top c.in-Some-get.x.now.outer) (names_from c.args.most c.args.instances.now c.args.top c.args.inside)
    c.in_ok-push_names-in-Some-get.ensures
    (c.in_ok-extend_from_slice-in-Some-get.ensures.items ∙ ap (λ l. c.push_names.new.words.items ++ l) (c.bytes.ensures ∙ c.instance_name.ensures))
    c.in_ok-push-in-Some-get.ensures.items
    (sym (within_step c.args.most c.args.instances.now c.args.top c.in-Some.i c.args.inside c.in-Some-get.x.now (omega arith) c.in-Some.is c.if-i-top.false there) ∙ c.requires)
    (names_step c.args.most c.args.instances.now c.args.top c.in-Some.i c.args.inside c.in-Some-get.x.now (omega arith) c.in-Some.is c.if-i-top.false there)

pub returns-in-None : goal.returns-in-None
returns-in-None t c =
    sym (append-nil c.args.words.now.items)
    ∙ ap (λ o. c.args.words.now.items ++ words_before o) (sym (names_lost c.args.most c.args.instances.now c.args.top c.in-Some.i c.args.inside (omega arith) c.in-Some.is c.if-i-top.false (slice_get_past c.args.instances.now c.in-Some.i c.in-None.ensures.lookup.3)))
