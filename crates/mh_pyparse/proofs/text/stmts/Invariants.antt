use Rattle.std.proofs.Common.{◌≡◌, length, []}
use Rattle.mh_reader.specs.Reader.{many}
use Rattle.mh_pyparse.specs.ReadingStatements as spec
use Rattle.mh_pyparse.proofs.text.stmts.Given as goal

abbrev pub invariant-more : goal.invariant-more
invariant-more l = many (spec.text_turn 200) ([], 0) l.fn.tokens ≡ many (spec.text_turn 200) (l.found, l.deepest) l.tokens

abbrev pub decreases-more : goal.decreases-more
decreases-more l = length l.tokens
