use Rattle.std.proofs.Common.{◌≡◌, length, []}
use Rattle.mh_reader.specs.Reader.{many}
use Rattle.mh_pyparse.specs.ReadingStatements as spec
use Rattle.mh_pyparse.proofs.small.bracketed_names.Given as goal

abbrev pub invariant-more : goal.invariant-more
invariant-more l = many spec.bracketed_names_turn [] l.fn.tokens ≡ many spec.bracketed_names_turn l.found l.tokens

abbrev pub decreases-more : goal.decreases-more
decreases-more l = length l.tokens
