use Rattle.std.proofs.Common.{ap, ◌∙◌}
use Rattle.std.proofs.lemmas.Int.{to_z-of_z}
use Rattle.std.specs.Int.{w128}
use Rattle.mh_design.specs.Assignments.{taken}
use Rattle.mh_gen.specs.Answers.{held_result}
use Rattle.mh_gen.proofs.Assigning.{taken-whole}
use Rattle.mh_gen.proofs.store.Store.taken.Goals as goal

pub returns : goal.returns
returns c =
    let l = c.local.result.now.limits in
    let e = c.take.ensures ∙ ap (λ y. held_result l (taken l y)) (to_z-of_z w128 c.args.v c.ranges.v) in
    taken-whole c.args.self.now c.args.n c.args.v c.local.result.now c.take.result c.local.ensures e
