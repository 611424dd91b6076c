use Rattle.mh_lower_laws.proofs.ScopeValues.{operated_fine}
use Rattle.mh_world.specs.World.{at}
use Rattle.mh_consts.specs.Operators.{operated}
use Rattle.mh_world_laws.specs.Laws.{IsOf}
use Rattle.mh_world_laws.proofs.Keeping.{seen}
use Rattle.mh_world_laws.proofs.Operating.{operate_keeps, operate_in_keeps, builtin_keeps}
use Rattle.mh_world_laws.proofs.operations_law.Goals as goal

pub returns-clause-operated : goal.returns-clause-operated
returns-clause-operated c = λ l op a b w h q. seen IsOf l w (operated op a b) h (operated_fine w.design op a b)

pub returns-clause-operations : goal.returns-clause-operations
returns-clause-operations c = λ l x vs w h q. operate_keeps w h l x vs q

pub returns-clause-operations_in : goal.returns-clause-operations_in
returns-clause-operations_in c = λ l e vs w h q. operate_in_keeps w h l e vs q

pub returns-clause-builtins : goal.returns-clause-builtins
returns-clause-builtins c = λ l b keys vs w h q. builtin_keeps w h l b keys vs q
