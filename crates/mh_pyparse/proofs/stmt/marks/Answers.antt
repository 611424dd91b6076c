use Rattle.std.proofs.Common.{[]}
use Rattle.std.proofs.lemmas.Result.{err_from_is_err_and}
use Rattle.mh_reader.specs.Reader.{many}
use Rattle.mh_reader.proofs.Turns.{loop_err, loop_done, loop_again}
use Rattle.mh_reader.proofs.Advances.{advanced}
use Rattle.mh_pytok.specs.declared.token.Tok.TheVariants.{End}
use Rattle.mh_pyparse.specs.Reading.{is}
use Rattle.mh_pyparse.specs.ReadingStatements as spec
use Rattle.mh_pyparse.proofs.AdvancesStatements.{advances_mark_turn}
use Rattle.mh_pyparse.proofs.stmt.marks.Goals as goal

pub returns-in_err-longer-clause-reads : goal.returns-in_err-longer-clause-reads
returns-in_err-longer-clause-reads c =
    let p = err_from_is_err_and c.from_residual.result c.from_residual.ensures.1 in
    rw (p.1, p.2) (loop_err (spec.mark_turn (spec.stmt c.args.fuel) c.args.fuel) (many (spec.mark_turn (spec.stmt c.args.fuel) c.args.fuel) ([], 0) c.args.tokens.now) (c.more.found, c.more.deepest) c.more.tokens c.more.invariant.rest c.in_err-longer.field-0.0 _ c.in_err-longer.ensures.reads)

pub returns-then-not-goes_on-clause-reads : goal.returns-then-not-goes_on-clause-reads
returns-then-not-goes_on-clause-reads c = loop_done (spec.mark_turn (spec.stmt c.args.fuel) c.args.fuel) (many (spec.mark_turn (spec.stmt c.args.fuel) c.args.fuel) ([], 0) c.args.tokens.now) (c.more.found, c.more.deepest) c.more.tokens c.more.invariant.rest _ _ _ c.if-not-goes_on.true c.in_ok-longer.ensures.reads

pub more-smaller : goal.more-smaller
more-smaller c = advanced (is End) _ (advances_mark_turn c.args.fuel (c.more.found, c.more.deepest)) c.more.tokens c.mark_turn.new.tokens (c.in_ok-longer.longer, c.in_ok-longer.depth) c.in_ok-longer.goes_on c.if-not-goes_on.false c.in_ok-longer.ensures.reads

pub more-preserved : goal.more-preserved
more-preserved c = record {
  depth = c.in_ok-longer.ensures.depth;
  rest = loop_again (spec.mark_turn (spec.stmt c.args.fuel) c.args.fuel) _ (c.more.found, c.more.deepest) c.more.tokens c.more.invariant.rest (c.in_ok-longer.longer, c.in_ok-longer.depth) c.in_ok-longer.goes_on c.mark_turn.new.tokens c.if-not-goes_on.false c.in_ok-longer.ensures.reads
      (advanced (is End) _ (advances_mark_turn c.args.fuel (c.more.found, c.more.deepest)) c.more.tokens c.mark_turn.new.tokens (c.in_ok-longer.longer, c.in_ok-longer.depth) c.in_ok-longer.goes_on c.if-not-goes_on.false c.in_ok-longer.ensures.reads);
}
