use Rattle.std.proofs.Common.{ap, ◌∙◌, pos, rules}
use Rattle.std.specs.Prelude.{slice_index_or}
use Rattle.std.proofs.lemmas.Int.{to_z-of_z}
use Rattle.std.specs.Int.{w128}
use Rattle.std.specs.Int.RustNames.{FitsSigned}
use Rattle.mh_sched.proofs.Concluding.{values_at}
use Rattle.mh_sched.proofs.sim.Sim.value.Goals as goal

pub returns : goal.returns
returns c st w =
    let f : FitsSigned w128 c.value.result = search rules in
    to_z-of_z w128 c.value.result f ∙ c.value.ensures ∙ ap (λ vs. slice_index_or vs c.args.s (pos 0)) (values_at c.args.self.now st w)
