use Rattle.std.proofs.Common.{ap, ◌∙◌}
use Rattle.std.proofs.lemmas.Int.{to_z-of_z}
use Rattle.std.specs.Int.{w128}
use Rattle.mh_design.specs.Values.{Between}
use Rattle.mh_design.specs.Assignments.{taken}
use Rattle.mh_gen.specs.Answers.{held_result}
use Rattle.mh_gen.proofs.Assigning.{bounded-bound}
use Rattle.mh_gen.proofs.store.Store.bound.Goals as goal

pub returns-in-Bounded : goal.returns-in-Bounded
returns-in-Bounded c =
    let b = c.in-Bounded.b in
    let e = c.bounded.ensures ∙ ap (λ y. held_result (Between b.lo b.top b.wraps) (taken (Between b.lo b.top b.wraps) y)) (to_z-of_z w128 c.args.v c.ranges.v) in
    bounded-bound c.args.self.now c.args.n c.args.binding b c.args.v c.bounded.result c.in-Bounded.is e
