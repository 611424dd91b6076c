use Rattle.mh_lower_laws.proofs.GeneratorDepths.{def_deep}
use Rattle.mh_lower_laws.proofs.depth_law.Goals as goal

pub returns : goal.returns
returns c = λ s f d r e n h q. def_deep s f d r e n h q
