use Rattle.mh_consts.proofs.Bindings.{lookup-bound}
use Rattle.mh_consts.proofs.laws.binding_law.Goals as goal

pub returns : goal.returns
returns c = λ es n. lookup-bound es n
