use Rattle.std.proofs.Common.{reverse, sym, ◌∙◌}
use Rattle.mh_pytok.specs.State.{place_of}
use Rattle.mh_pytok.specs.declared.shape.Line.TheVariants.{Full}
use Rattle.mh_pytok.proofs.StepLaws.{indented_same, indented_open, indented_bad}
use Rattle.mh_pytok.proofs.GoLaws.{gone, opened, stopped}
use Rattle.mh_pytok.proofs.steps.indent.Goals as goal

pub returns-then-innermost_of-column-clause-gives : goal.returns-then-innermost_of-column-clause-gives
returns-then-innermost_of-column-clause-gives c = (
  _,
  gone _ _ _ _ c.in_ok-close_blocks.ensures.state
      (indented_same c.args.src.now (place_of c.args.state.now) c.args.column c.leave-leaves.result c.args.state.now.number (reverse c.leave-leaves.new.indents)
      c.leave-leaves.ensures.count c.leave-leaves.ensures.rest c.requires.state.line.is (sym c.innermost_of.ensures ∙ c.if-innermost_of-column.true)),
  c.in_ok-close_blocks.ensures.tokens,
)

pub returns-then-leaves-eq0-clause-gives : goal.returns-then-leaves-eq0-clause-gives
returns-then-leaves-eq0-clause-gives c =
    let is = indented_open c.args.src.now (place_of c.args.state.now) c.args.column c.leave-leaves.result c.args.state.now.number (reverse c.leave-leaves.new.indents)
    c.leave-leaves.ensures.count c.leave-leaves.ensures.rest c.requires.state.line.is (λ e. c.if-innermost_of-column.false (c.innermost_of.ensures ∙ e)) c.if-leaves-eq0.true in (
      _,
      gone _ _ _ _ c.in_ok-open_block.ensures.state (opened _ _ _ _ _ c.leave-leaves.new.indents (reverse c.args.state.now.indents) Full is.1 is.0),
      c.in_ok-open_block.ensures.tokens,
    )

pub returns-clause-gives : goal.returns-clause-gives
returns-clause-gives c =
    stopped _ c.args.out.now c.args.out.now (place_of (record c.args.state.now { indents = c.leave-leaves.new.indents })) _ _ _ c.refusal.ensures
    (indented_bad c.args.src.now (place_of c.args.state.now) c.args.column c.leave-leaves.result c.args.state.now.number (reverse c.leave-leaves.new.indents)
    c.leave-leaves.ensures.count c.leave-leaves.ensures.rest c.requires.state.line.is (λ e. c.if-innermost_of-column.false (c.innermost_of.ensures ∙ e)) c.if-leaves-eq0.false)
