use Rattle.std.proofs.Common.{◌≡◌, ◌++◌, [], drop, ap, sym, ◌∙◌, append-nil, arith}
use Rattle.mh_lower.specs.Paths.{on_both}
use Rattle.mh_lower.proofs.Pairs.{none_left, on_both-none}
use Rattle.mh_lower.proofs.paths.on_both.Goals as goal

pub returns-in-empty : goal.returns-in-empty
returns-in-empty c =
    let none : c.loop-x.rest.now ≡ [] = none_left c.loop-x.rest.now (omega arith) in
    let over : on_both (drop c.loop-x.x-index c.args.a.now) c.loop-x.rest.now ≡ [] = ap (on_both (drop c.loop-x.x-index c.args.a.now)) none ∙ on_both-none (drop c.loop-x.x-index c.args.a.now) in
    sym (append-nil c.loop-x.both) ∙ ap (λ ys. c.loop-x.both ++ ys) (sym over) ∙ c.loop-x.invariant
