use Rattle.std.proofs.Common.{[]}
use Rattle.std.proofs.lemmas.Result.{err_from_is_err_and}
use Rattle.mh_reader.specs.Reader.{many}
use Rattle.mh_reader.proofs.Turns.{loop_err, loop_done, loop_again}
use Rattle.mh_reader.proofs.Advances.{advanced}
use Rattle.mh_pytok.specs.declared.token.Tok.TheVariants.{End}
use Rattle.mh_pyparse.specs.Reading.{is}
use Rattle.mh_pyparse.specs.ReadingStatements as spec
use Rattle.mh_pyparse.proofs.AdvancesStatements.{advances_text_turn}
use Rattle.mh_pyparse.proofs.text.stmts.Goals as goal

pub returns-in_err-longer : goal.returns-in_err-longer
returns-in_err-longer c =
    let p = err_from_is_err_and c.from_residual.result c.from_residual.ensures.1 in
    rw (p.1, p.2) (loop_err (spec.text_turn 200) (many (spec.text_turn 200) ([], 0) c.args.tokens.now) (c.more.found, c.more.deepest) c.more.tokens c.more.invariant c.in_err-longer.field-0.0 _ c.in_err-longer.ensures)

pub returns-then-not-goes_on : goal.returns-then-not-goes_on
returns-then-not-goes_on c = loop_done (spec.text_turn 200) (many (spec.text_turn 200) ([], 0) c.args.tokens.now) (c.more.found, c.more.deepest) c.more.tokens c.more.invariant _ _ _ c.if-not-goes_on.true c.in_ok-longer.ensures

pub more-smaller : goal.more-smaller
more-smaller c = advanced (is End) _ (advances_text_turn 200 (c.more.found, c.more.deepest)) c.more.tokens c.text_turn.new.tokens (c.in_ok-longer.longer, c.in_ok-longer.depth) c.in_ok-longer.goes_on c.if-not-goes_on.false c.in_ok-longer.ensures

pub more-preserved : goal.more-preserved
more-preserved c = loop_again (spec.text_turn 200) _ (c.more.found, c.more.deepest) c.more.tokens c.more.invariant (c.in_ok-longer.longer, c.in_ok-longer.depth) c.in_ok-longer.goes_on c.text_turn.new.tokens c.if-not-goes_on.false c.in_ok-longer.ensures
    (advanced (is End) _ (advances_text_turn 200 (c.more.found, c.more.deepest)) c.more.tokens c.text_turn.new.tokens (c.in_ok-longer.longer, c.in_ok-longer.depth) c.in_ok-longer.goes_on c.if-not-goes_on.false c.in_ok-longer.ensures)
