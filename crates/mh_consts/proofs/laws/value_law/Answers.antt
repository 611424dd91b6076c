use Rattle.mh_consts.proofs.Operation.{value-operation}
use Rattle.mh_consts.proofs.laws.value_law.Goals as goal

pub returns : goal.returns
returns c = value-operation
