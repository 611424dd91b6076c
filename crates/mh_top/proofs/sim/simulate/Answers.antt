use Rattle.std.proofs.Common.{◌∙◌, ap, sym}
use Rattle.std.proofs.lemmas.Result.{IfOk-weaker}
use Rattle.std.specs.Option.{option_copied}
use Rattle.mh_design.specs.WellFormed.{is_well_formed}
use Rattle.mh_lower_laws.proofs.Basics.{all_at}
use Rattle.mh_top.proofs.SimLaws.{run_in}
use Rattle.mh_top.proofs.sim.simulate.Goals as goal

pub returns-in-Some-get : goal.returns-in-Some-get
returns-in-Some-get c =
    IfOk-weaker c.simulate_design.result _ _
    (run_in c.args.found.now.tops c.args.found.now.requests c.in-Some.top c.in-Some.n c.in-Some-get.d.now (sym (rw c.as_slice.ensures at c.first_run.ensures) ∙ c.in-Some.is) (sym c.get.ensures.value ∙ ap option_copied c.in-Some-get.is))
    c.simulate_design.ensures

pub simulate_design-requires : goal.simulate_design-requires
simulate_design-requires c =
    all_at is_well_formed c.args.found.now.tops c.in-Some.top c.in-Some-get.d.now c.requires (sym c.get.ensures.value ∙ ap option_copied c.in-Some-get.is)
