use Rattle.std.proofs.Common.{[]}
use Rattle.std.proofs.lemmas.Result.{err_from_is_err_and}
use Rattle.mh_reader.specs.Reader.{many}
use Rattle.mh_reader.proofs.Turns.{loop_err, loop_done, loop_again}
use Rattle.mh_reader.proofs.Advances.{advanced}
use Rattle.mh_pytok.specs.declared.token.Tok.TheVariants.{End}
use Rattle.mh_pyparse.specs.Reading.{is}
use Rattle.mh_pyparse.specs.ReadingStatements as spec
use Rattle.mh_pyparse.proofs.AdvancesStatements.{advances_block_turn, advances_branch_turn}
use Rattle.mh_pyparse.proofs.Starts.{stmt_at, stmt_none}
use Rattle.mh_pyparse.proofs.stmt.+statements.Goals as goal

pub block-returns-in_err-longer-clause-reads : goal.block-returns-in_err-longer-clause-reads
block-returns-in_err-longer-clause-reads t c =
    let p = err_from_is_err_and c.from_residual.result c.from_residual.ensures.1 in
    rw (p.1, p.2) (loop_err (spec.block_turn (spec.stmt c.args.fuel)) (many (spec.block_turn (spec.stmt c.args.fuel)) ([], 0) c.args.tokens.now) (c.more.found, c.more.deepest) c.more.tokens c.more.invariant.rest c.in_err-longer.field-0.0 _ c.in_err-longer.ensures.reads)

pub block-returns-then-not-goes_on-clause-reads : goal.block-returns-then-not-goes_on-clause-reads
block-returns-then-not-goes_on-clause-reads t c = loop_done (spec.block_turn (spec.stmt c.args.fuel)) (many (spec.block_turn (spec.stmt c.args.fuel)) ([], 0) c.args.tokens.now) (c.more.found, c.more.deepest) c.more.tokens c.more.invariant.rest _ _ _ c.if-not-goes_on.true c.in_ok-longer.ensures.reads

pub block-more-smaller : goal.block-more-smaller
block-more-smaller t c = advanced (is End) _ (advances_block_turn c.args.fuel (c.more.found, c.more.deepest)) c.more.tokens c.block_turn.new.tokens (c.in_ok-longer.longer, c.in_ok-longer.depth) c.in_ok-longer.goes_on c.if-not-goes_on.false c.in_ok-longer.ensures.reads

pub block-more-preserved : goal.block-more-preserved
block-more-preserved t c = record {
  depth = c.in_ok-longer.ensures.depth;
  rest = loop_again (spec.block_turn (spec.stmt c.args.fuel)) _ (c.more.found, c.more.deepest) c.more.tokens c.more.invariant.rest (c.in_ok-longer.longer, c.in_ok-longer.depth) c.in_ok-longer.goes_on c.block_turn.new.tokens c.if-not-goes_on.false c.in_ok-longer.ensures.reads
      (advanced (is End) _ (advances_block_turn c.args.fuel (c.more.found, c.more.deepest)) c.more.tokens c.block_turn.new.tokens (c.in_ok-longer.longer, c.in_ok-longer.depth) c.in_ok-longer.goes_on c.if-not-goes_on.false c.in_ok-longer.ensures.reads);
}

pub branches-returns-in_err-longer-clause-reads : goal.branches-returns-in_err-longer-clause-reads
branches-returns-in_err-longer-clause-reads t c =
    let p = err_from_is_err_and c.from_residual.result c.from_residual.ensures.1 in
    rw (p.1, p.2) (loop_err (spec.branch_turn (spec.stmt c.args.fuel) c.args.fuel) (many (spec.branch_turn (spec.stmt c.args.fuel) c.args.fuel) ([], 0) c.args.tokens.now) (c.more.found, c.more.deepest) c.more.tokens c.more.invariant.rest c.in_err-longer.field-0.0 _ c.in_err-longer.ensures.reads)

pub branches-returns-then-not-goes_on-clause-reads : goal.branches-returns-then-not-goes_on-clause-reads
branches-returns-then-not-goes_on-clause-reads t c = loop_done (spec.branch_turn (spec.stmt c.args.fuel) c.args.fuel) (many (spec.branch_turn (spec.stmt c.args.fuel) c.args.fuel) ([], 0) c.args.tokens.now) (c.more.found, c.more.deepest) c.more.tokens c.more.invariant.rest _ _ _ c.if-not-goes_on.true c.in_ok-longer.ensures.reads

pub branches-more-smaller : goal.branches-more-smaller
branches-more-smaller t c = advanced (is End) _ (advances_branch_turn c.args.fuel (c.more.found, c.more.deepest)) c.more.tokens c.branch_turn.new.tokens (c.in_ok-longer.longer, c.in_ok-longer.depth) c.in_ok-longer.goes_on c.if-not-goes_on.false c.in_ok-longer.ensures.reads

pub branches-more-preserved : goal.branches-more-preserved
branches-more-preserved t c = record {
  depth = c.in_ok-longer.ensures.depth;
  rest = loop_again (spec.branch_turn (spec.stmt c.args.fuel) c.args.fuel) _ (c.more.found, c.more.deepest) c.more.tokens c.more.invariant.rest (c.in_ok-longer.longer, c.in_ok-longer.depth) c.in_ok-longer.goes_on c.branch_turn.new.tokens c.if-not-goes_on.false c.in_ok-longer.ensures.reads
      (advanced (is End) _ (advances_branch_turn c.args.fuel (c.more.found, c.more.deepest)) c.more.tokens c.branch_turn.new.tokens (c.in_ok-longer.longer, c.in_ok-longer.depth) c.in_ok-longer.goes_on c.if-not-goes_on.false c.in_ok-longer.ensures.reads);
}

pub stmt-returns-then-fuel-eq0-clause-reads : goal.stmt-returns-then-fuel-eq0-clause-reads
stmt-returns-then-fuel-eq0-clause-reads t c = rw c.if-fuel-eq0.true (stmt_none c.args.tokens.now)

pub stmt-returns-clause-reads : goal.stmt-returns-clause-reads
stmt-returns-clause-reads t c = rw (stmt_at c.args.fuel c.args.tokens.now c.if-fuel-eq0.false) (c.stmt_by.ensures.reads)
