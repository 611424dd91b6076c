use Rattle.mh_plans_laws.proofs.Planning.{plan_fits_well, all_fit, plan_is_design}
use Rattle.mh_plans_laws.proofs.plans_law.Goals as goal

pub returns-clause-one : goal.returns-clause-one
returns-clause-one c = plan_fits_well

pub returns-clause-all : goal.returns-clause-all
returns-clause-all c = λ w ps rs h e. all_fit w h ps rs e

pub returns-clause-designs : goal.returns-clause-designs
returns-clause-designs c = plan_is_design
