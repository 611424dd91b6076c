use Rattle.mh_bits.proofs.SomeBelow.{truth_of-one, truth_of-val}
use Rattle.mh_bits.proofs.laws.truth_laws.Goals as goal

pub returns-clause-one : goal.returns-clause-one
returns-clause-one c = truth_of-one

pub returns-clause-word : goal.returns-clause-word
returns-clause-word c = truth_of-val
