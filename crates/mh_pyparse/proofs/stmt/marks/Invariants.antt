use Rattle.std.proofs.Common.{◌≡◌, ◌≤◌, length, []}
use Rattle.mh_reader.specs.Reader.{many}
use Rattle.mh_pyparse.specs.ReadingStatements as spec
use Rattle.mh_pyparse.proofs.stmt.marks.Given as goal

abbrev pub invariant-more : goal.invariant-more
invariant-more l = record {
  depth : l.deepest ≤ l.fuel;
  rest : many (spec.mark_turn (spec.stmt l.fuel) l.fuel) ([], 0) l.fn.tokens ≡ many (spec.mark_turn (spec.stmt l.fuel) l.fuel) (l.found, l.deepest) l.tokens;
}

abbrev pub decreases-more : goal.decreases-more
decreases-more l = length l.tokens
