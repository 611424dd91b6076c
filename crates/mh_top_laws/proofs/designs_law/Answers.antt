use Rattle.mh_top_laws.proofs.Designs.{plans_differ}
use Rattle.mh_top_laws.proofs.designs_law.Goals as goal

pub returns : goal.returns
returns c = λ d e h. plans_differ d e h
