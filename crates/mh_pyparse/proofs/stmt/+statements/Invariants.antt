use Rattle.std.proofs.Common.{◌≡◌, ◌+◌, ◌*◌, ◌≤◌, length, []}
use Rattle.mh_reader.specs.Reader.{many}
use Rattle.mh_pyparse.specs.ReadingStatements as spec
use Rattle.mh_pyparse.proofs.stmt.+statements.Given as goal

abbrev pub decreases-stmt : goal.decreases-stmt
decreases-stmt l = 20 * l.fuel

abbrev pub decreases-block_turn : goal.decreases-block_turn
decreases-block_turn l = 20 * l.fuel + 1

abbrev pub decreases-block : goal.decreases-block
decreases-block l = 20 * l.fuel + 2

abbrev pub decreases-suite : goal.decreases-suite
decreases-suite l = 20 * l.fuel + 3

abbrev pub decreases-branch_turn : goal.decreases-branch_turn
decreases-branch_turn l = 20 * l.fuel + 4

abbrev pub decreases-branches : goal.decreases-branches
decreases-branches l = 20 * l.fuel + 5

abbrev pub decreases-otherwise : goal.decreases-otherwise
decreases-otherwise l = 20 * l.fuel + 4

abbrev pub decreases-conditional : goal.decreases-conditional
decreases-conditional l = 20 * l.fuel + 6

abbrev pub decreases-for_each : goal.decreases-for_each
decreases-for_each l = 20 * l.fuel + 4

abbrev pub decreases-as_long : goal.decreases-as_long
decreases-as_long l = 20 * l.fuel + 4

abbrev pub decreases-body_of : goal.decreases-body_of
decreases-body_of l = 20 * l.fuel + 4

abbrev pub decreases-defined : goal.decreases-defined
decreases-defined l = 20 * l.fuel + 5

abbrev pub decreases-marked : goal.decreases-marked
decreases-marked l = 20 * l.fuel + 6

abbrev pub decreases-compound : goal.decreases-compound
decreases-compound l = 20 * l.fuel + 7

abbrev pub decreases-stmt_by : goal.decreases-stmt_by
decreases-stmt_by l = 20 * l.fuel + 8

abbrev pub invariant-block-more : goal.invariant-block-more
invariant-block-more l = record {
  depth : l.deepest ≤ l.fuel;
  rest : many (spec.block_turn (spec.stmt l.fuel)) ([], 0) l.fn.tokens ≡ many (spec.block_turn (spec.stmt l.fuel)) (l.found, l.deepest) l.tokens;
}

abbrev pub decreases-block-more : goal.decreases-block-more
decreases-block-more l = length l.tokens

abbrev pub invariant-branches-more : goal.invariant-branches-more
invariant-branches-more l = record {
  depth : l.deepest ≤ l.fuel;
  rest : many (spec.branch_turn (spec.stmt l.fuel) l.fuel) ([], 0) l.fn.tokens ≡ many (spec.branch_turn (spec.stmt l.fuel) l.fuel) (l.found, l.deepest) l.tokens;
}

abbrev pub decreases-branches-more : goal.decreases-branches-more
decreases-branches-more l = length l.tokens
