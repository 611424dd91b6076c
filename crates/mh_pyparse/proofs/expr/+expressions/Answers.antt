use Rattle.std.proofs.Common.{[]}
use Rattle.std.proofs.lemmas.Result.{err_from_is_err_and}
use Rattle.mh_reader.specs.Reader.{many}
use Rattle.mh_reader.proofs.Turns.{loop_err, loop_done, loop_again}
use Rattle.mh_reader.proofs.Advances.{advanced}
use Rattle.mh_pytok.specs.declared.token.Tok.TheVariants.{End}
use Rattle.mh_pyparse.specs.Reading.{is}
use Rattle.mh_pyparse.specs.Reading as spec
use Rattle.mh_pyparse.proofs.Advances.{advances_items_turn, advances_arguments_turn, advances_operate_turn}
use Rattle.mh_pyparse.proofs.Starts.{expr_at}
use Rattle.mh_pyparse.proofs.expr.+expressions.Goals as goal

pub items-returns-in_err-longer-clause-reads : goal.items-returns-in_err-longer-clause-reads
items-returns-in_err-longer-clause-reads t c =
    let p = err_from_is_err_and c.from_residual.result c.from_residual.ensures.1 in
    rw (p.1, p.2) (loop_err (spec.items_turn (spec.expr c.args.fuel) c.args.close) (many (spec.items_turn (spec.expr c.args.fuel) c.args.close) (c.args.found, c.args.deepest) c.args.tokens.now) (c.more.found, c.more.deepest) c.more.tokens c.more.invariant.rest c.in_err-longer.field-0.0 _ c.in_err-longer.ensures.reads)

pub items-returns-then-not-goes_on-clause-reads : goal.items-returns-then-not-goes_on-clause-reads
items-returns-then-not-goes_on-clause-reads t c = loop_done (spec.items_turn (spec.expr c.args.fuel) c.args.close) (many (spec.items_turn (spec.expr c.args.fuel) c.args.close) (c.args.found, c.args.deepest) c.args.tokens.now) (c.more.found, c.more.deepest) c.more.tokens c.more.invariant.rest _ _ _ c.if-not-goes_on.true c.in_ok-longer.ensures.reads

pub items-more-smaller : goal.items-more-smaller
items-more-smaller t c = advanced (is End) _ (advances_items_turn c.args.fuel c.args.close (c.more.found, c.more.deepest)) c.more.tokens c.items_turn.new.tokens (c.in_ok-longer.longer, c.in_ok-longer.depth) c.in_ok-longer.goes_on c.if-not-goes_on.false c.in_ok-longer.ensures.reads

pub items-more-preserved : goal.items-more-preserved
items-more-preserved t c = record {
  depth = c.in_ok-longer.ensures.depth;
  rest = loop_again (spec.items_turn (spec.expr c.args.fuel) c.args.close) _ (c.more.found, c.more.deepest) c.more.tokens c.more.invariant.rest (c.in_ok-longer.longer, c.in_ok-longer.depth) c.in_ok-longer.goes_on c.items_turn.new.tokens c.if-not-goes_on.false c.in_ok-longer.ensures.reads
      (advanced (is End) _ (advances_items_turn c.args.fuel c.args.close (c.more.found, c.more.deepest)) c.more.tokens c.items_turn.new.tokens (c.in_ok-longer.longer, c.in_ok-longer.depth) c.in_ok-longer.goes_on c.if-not-goes_on.false c.in_ok-longer.ensures.reads);
}

pub arguments-returns-in_err-longer-clause-reads : goal.arguments-returns-in_err-longer-clause-reads
arguments-returns-in_err-longer-clause-reads t c =
    let p = err_from_is_err_and c.from_residual.result c.from_residual.ensures.1 in
    rw (p.1, p.2) (loop_err (spec.arguments_turn (spec.expr c.args.fuel)) (many (spec.arguments_turn (spec.expr c.args.fuel)) ([], 0) c.args.tokens.now) (c.more.found, c.more.deepest) c.more.tokens c.more.invariant.rest c.in_err-longer.field-0.0 _ c.in_err-longer.ensures.reads)

pub arguments-returns-then-not-goes_on-clause-reads : goal.arguments-returns-then-not-goes_on-clause-reads
arguments-returns-then-not-goes_on-clause-reads t c = loop_done (spec.arguments_turn (spec.expr c.args.fuel)) (many (spec.arguments_turn (spec.expr c.args.fuel)) ([], 0) c.args.tokens.now) (c.more.found, c.more.deepest) c.more.tokens c.more.invariant.rest _ _ _ c.if-not-goes_on.true c.in_ok-longer.ensures.reads

pub arguments-more-smaller : goal.arguments-more-smaller
arguments-more-smaller t c = advanced (is End) _ (advances_arguments_turn c.args.fuel (c.more.found, c.more.deepest)) c.more.tokens c.arguments_turn.new.tokens (c.in_ok-longer.longer, c.in_ok-longer.depth) c.in_ok-longer.goes_on c.if-not-goes_on.false c.in_ok-longer.ensures.reads

pub arguments-more-preserved : goal.arguments-more-preserved
arguments-more-preserved t c = record {
  depth = c.in_ok-longer.ensures.depth;
  rest = loop_again (spec.arguments_turn (spec.expr c.args.fuel)) _ (c.more.found, c.more.deepest) c.more.tokens c.more.invariant.rest (c.in_ok-longer.longer, c.in_ok-longer.depth) c.in_ok-longer.goes_on c.arguments_turn.new.tokens c.if-not-goes_on.false c.in_ok-longer.ensures.reads
      (advanced (is End) _ (advances_arguments_turn c.args.fuel (c.more.found, c.more.deepest)) c.more.tokens c.arguments_turn.new.tokens (c.in_ok-longer.longer, c.in_ok-longer.depth) c.in_ok-longer.goes_on c.if-not-goes_on.false c.in_ok-longer.ensures.reads);
}

pub operate-returns-in_err-longer-clause-reads : goal.operate-returns-in_err-longer-clause-reads
operate-returns-in_err-longer-clause-reads t c =
    let p = err_from_is_err_and c.from_residual.result c.from_residual.ensures.1 in
    rw (p.1, p.2) (loop_err (spec.operate_turn (spec.expr c.args.fuel) c.args.fuel c.args.least) (many (spec.operate_turn (spec.expr c.args.fuel) c.args.fuel c.args.least) (c.args.left, c.args.left_depth) c.args.tokens.now) (c.more.left, c.more.left_depth) c.more.tokens c.more.invariant.rest c.in_err-longer.field-0.0 _ c.in_err-longer.ensures.reads)

pub operate-returns-then-not-goes_on-clause-reads : goal.operate-returns-then-not-goes_on-clause-reads
operate-returns-then-not-goes_on-clause-reads t c = loop_done (spec.operate_turn (spec.expr c.args.fuel) c.args.fuel c.args.least) (many (spec.operate_turn (spec.expr c.args.fuel) c.args.fuel c.args.least) (c.args.left, c.args.left_depth) c.args.tokens.now) (c.more.left, c.more.left_depth) c.more.tokens c.more.invariant.rest _ _ _ c.if-not-goes_on.true c.in_ok-longer.ensures.reads

pub operate-more-smaller : goal.operate-more-smaller
operate-more-smaller t c = advanced (is End) _ (advances_operate_turn c.args.fuel c.args.least (c.more.left, c.more.left_depth)) c.more.tokens c.operate_turn.new.tokens (c.in_ok-longer.longer, c.in_ok-longer.depth) c.in_ok-longer.goes_on c.if-not-goes_on.false c.in_ok-longer.ensures.reads

pub operate-more-preserved : goal.operate-more-preserved
operate-more-preserved t c = record {
  depth = c.in_ok-longer.ensures.depth;
  rest = loop_again (spec.operate_turn (spec.expr c.args.fuel) c.args.fuel c.args.least) _ (c.more.left, c.more.left_depth) c.more.tokens c.more.invariant.rest (c.in_ok-longer.longer, c.in_ok-longer.depth) c.in_ok-longer.goes_on c.operate_turn.new.tokens c.if-not-goes_on.false c.in_ok-longer.ensures.reads
      (advanced (is End) _ (advances_operate_turn c.args.fuel c.args.least (c.more.left, c.more.left_depth)) c.more.tokens c.operate_turn.new.tokens (c.in_ok-longer.longer, c.in_ok-longer.depth) c.in_ok-longer.goes_on c.if-not-goes_on.false c.in_ok-longer.ensures.reads);
}

pub expr-returns-clause-reads : goal.expr-returns-clause-reads
expr-returns-clause-reads t c = rw (expr_at c.args.fuel c.args.least c.args.tokens.now c.if-fuel-eq0.false) (c.whole.ensures.reads)
