use Rattle.std.proofs.Common.{◌≡◌, ◌≤◌, length}
use Rattle.mh_reader.specs.Reader.{many}
use Rattle.mh_pyparse.specs.Reading as spec
use Rattle.mh_pyparse.proofs.expr.tuple_items.Given as goal

abbrev pub invariant-more : goal.invariant-more
invariant-more l = record {
  depth : l.deepest ≤ l.fuel;
  rest : many (spec.tuple_turn (spec.expr l.fuel)) (l.initial.found, l.initial.deepest) l.fn.tokens ≡ many (spec.tuple_turn (spec.expr l.fuel)) (l.found, l.deepest) l.tokens;
}

abbrev pub decreases-more : goal.decreases-more
decreases-more l = length l.tokens
