use Rattle.std.proofs.Common.{◌≡◌, ◌+◌, ◌*◌, ◌≤◌, length, []}
use Rattle.mh_reader.specs.Reader.{many}
use Rattle.mh_pyparse.specs.Reading as spec
use Rattle.mh_pyparse.proofs.expr.+expressions.Given as goal

abbrev pub decreases-expr : goal.decreases-expr
decreases-expr l = 20 * l.fuel

abbrev pub decreases-items_turn : goal.decreases-items_turn
decreases-items_turn l = 20 * l.fuel + 1

abbrev pub decreases-items : goal.decreases-items
decreases-items l = 20 * l.fuel + 2

abbrev pub decreases-bracketed : goal.decreases-bracketed
decreases-bracketed l = 20 * l.fuel + 3

abbrev pub decreases-comprehended : goal.decreases-comprehended
decreases-comprehended l = 20 * l.fuel + 1

abbrev pub decreases-comprehension : goal.decreases-comprehension
decreases-comprehension l = 20 * l.fuel + 3

abbrev pub decreases-list : goal.decreases-list
decreases-list l = 20 * l.fuel + 3

abbrev pub decreases-round : goal.decreases-round
decreases-round l = 20 * l.fuel + 4

abbrev pub decreases-square : goal.decreases-square
decreases-square l = 20 * l.fuel + 4

abbrev pub decreases-operand : goal.decreases-operand
decreases-operand l = 20 * l.fuel + 1

abbrev pub decreases-prefix : goal.decreases-prefix
decreases-prefix l = 20 * l.fuel + 5

abbrev pub decreases-argument : goal.decreases-argument
decreases-argument l = 20 * l.fuel + 1

abbrev pub decreases-arguments_turn : goal.decreases-arguments_turn
decreases-arguments_turn l = 20 * l.fuel + 2

abbrev pub decreases-arguments : goal.decreases-arguments
decreases-arguments l = 20 * l.fuel + 3

abbrev pub decreases-sliced : goal.decreases-sliced
decreases-sliced l = 20 * l.fuel + 1

abbrev pub decreases-indexed : goal.decreases-indexed
decreases-indexed l = 20 * l.fuel + 2

abbrev pub decreases-apply : goal.decreases-apply
decreases-apply l = 20 * l.fuel + 4

abbrev pub decreases-operate_turn : goal.decreases-operate_turn
decreases-operate_turn l = 20 * l.fuel + 6

abbrev pub decreases-operate : goal.decreases-operate
decreases-operate l = 20 * l.fuel + 7

abbrev pub decreases-whole : goal.decreases-whole
decreases-whole l = 20 * l.fuel + 8

abbrev pub invariant-items-more : goal.invariant-items-more
invariant-items-more l = record {
  depth : l.deepest ≤ l.fuel;
  rest : many (spec.items_turn (spec.expr l.fuel) l.close) (l.initial.found, l.initial.deepest) l.fn.tokens ≡ many (spec.items_turn (spec.expr l.fuel) l.close) (l.found, l.deepest) l.tokens;
}

abbrev pub decreases-items-more : goal.decreases-items-more
decreases-items-more l = length l.tokens

abbrev pub invariant-arguments-more : goal.invariant-arguments-more
invariant-arguments-more l = record {
  depth : l.deepest ≤ l.fuel;
  rest : many (spec.arguments_turn (spec.expr l.fuel)) ([], 0) l.fn.tokens ≡ many (spec.arguments_turn (spec.expr l.fuel)) (l.found, l.deepest) l.tokens;
}

abbrev pub decreases-arguments-more : goal.decreases-arguments-more
decreases-arguments-more l = length l.tokens

abbrev pub invariant-operate-more : goal.invariant-operate-more
invariant-operate-more l = record {
  depth : l.left_depth ≤ l.fuel + 1;
  rest : many (spec.operate_turn (spec.expr l.fuel) l.fuel l.least) (l.initial.left, l.initial.left_depth) l.fn.tokens ≡ many (spec.operate_turn (spec.expr l.fuel) l.fuel l.least) (l.left, l.left_depth) l.tokens;
}

abbrev pub decreases-operate-more : goal.decreases-operate-more
decreases-operate-more l = length l.tokens
