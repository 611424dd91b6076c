use Rattle.mh_flat.proofs.Determinism as determinism
use Rattle.mh_flat.proofs.laws.evaluates_once.Goals as goal

pub returns : goal.returns
returns g c = determinism.evaluates_once g.L.Lang c.args.budget
