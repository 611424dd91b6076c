use Rattle.mh_lower_laws.proofs.WholeGenerators.{def_fits}
use Rattle.mh_lower_laws.proofs.whole_law.Goals as goal

pub returns : goal.returns
returns c = λ s f d g e h n m i q. def_fits s f d g e h n m i q
