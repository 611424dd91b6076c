use Rattle.std.proofs.Common.{[], sym, ◌∙◌, ap, subst}
use Rattle.std.proofs.lemmas.List.{append-nil}
use Rattle.mh_pytok.specs.State.{place_of, Gives}
use Rattle.mh_pytok.specs.Layout as spec
use Rattle.mh_pytok.specs.declared.state.State.{State}
use Rattle.mh_pytok.specs.declared.shape.Line.TheVariants.{Bare}
use Rattle.mh_pytok.proofs.GoLaws.{begun_bare, begun_indented, begun_tab, stopped}
use Rattle.mh_pytok.proofs.steps.begin.Goals as goal

pub returns-then-holds_nothing-clause-gives : goal.returns-then-holds_nothing-clause-gives
returns-then-holds_nothing-clause-gives c = (
  [],
  begun_bare c.args.src.now (place_of c.args.state.now) c.behind-rest.result.now c.behind.result.now c.spaces_and_tabs-column.result
      c.behind-rest.ensures c.behind.ensures c.spaces_and_tabs-column.ensures.count c.if-holds_nothing.ensures
      ∙ ap (λ (s : State). spec.Goes [] (place_of (record s { line = Bare }))) (sym c.move_on.ensures.state),
  sym (append-nil c.args.out.now),
)

pub returns-then-spaces-column-clause-gives : goal.returns-then-spaces-column-clause-gives
returns-then-spaces-column-clause-gives c =
    subst (λ (n : spec.Next). Gives n c.args.out.now c.indent.result c.indent.new.out (place_of c.indent.new.state))
    (sym (begun_indented c.args.src.now (place_of c.args.state.now) c.behind-rest.result.now c.behind.result.now c.spaces_and_tabs-column.result
    c.behind-rest.ensures c.behind.ensures c.spaces_and_tabs-column.ensures.count c.spaces.result c.spaces.ensures.count c.if-holds_nothing.ensures c.if-spaces-column.true))
    c.indent.ensures.gives

pub returns-clause-gives : goal.returns-clause-gives
returns-clause-gives c =
    stopped _ c.args.out.now c.args.out.now (place_of c.args.state.now) _ _ _ c.refusal.ensures
    (begun_tab c.args.src.now (place_of c.args.state.now) c.behind-rest.result.now c.behind.result.now c.spaces_and_tabs-column.result
    c.behind-rest.ensures c.behind.ensures c.spaces_and_tabs-column.ensures.count c.spaces.result c.args.state.now.number c.spaces.ensures.count c.if-holds_nothing.ensures
    c.if-spaces-column.false c.requires.state.line.is)
