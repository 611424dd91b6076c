use Rattle.mh_flat.proofs.Existence as always
use Rattle.mh_flat.proofs.laws.evaluates_always.Goals as goal

pub returns : goal.returns
returns g c = always.always g.L.Lang c.args.budget
