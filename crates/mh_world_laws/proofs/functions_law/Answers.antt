use Rattle.mh_world_laws.proofs.Calling.{marked_keeps, function_keeps, callee_keeps, enter_keeps, returned_keeps, leave_keeps}
use Rattle.mh_world_laws.proofs.functions_law.Goals as goal

pub returns-clause-marks : goal.returns-clause-marks
returns-clause-marks c = λ l ms w h. marked_keeps w h l ms

pub returns-clause-functions : goal.returns-clause-functions
returns-clause-functions c = λ l t is_block ps vs b n p s w h q. function_keeps w h l t is_block ps vs b n p s q

pub returns-clause-callees : goal.returns-clause-callees
returns-clause-callees c = λ l n keys vs w h q. callee_keeps w h l n keys vs q

pub returns-clause-enters : goal.returns-clause-enters
returns-clause-enters c = λ x w h f. enter_keeps w h x f

pub returns-clause-returns : goal.returns-clause-returns
returns-clause-returns c = λ l v w h q. returned_keeps w h l v q

pub returns-clause-leaves : goal.returns-clause-leaves
returns-clause-leaves c = λ l x f w h q. leave_keeps w h l x f q
