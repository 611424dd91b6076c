use Rattle.mh_pyparse.proofs.Refuse.{one_tree as one}
use Rattle.mh_pyparse.proofs.laws.one_tree.Goals as goal

pub returns : goal.returns
returns c = one
