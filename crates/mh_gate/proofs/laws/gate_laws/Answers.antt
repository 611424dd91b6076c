use Rattle.mh_gate.proofs.SameLaws.{keeps_body, keeps_design}
use Rattle.mh_gate.proofs.laws.gate_laws.Goals as goal

pub returns-clause-bodies : goal.returns-clause-bodies
returns-clause-bodies c = keeps_body

pub returns-clause-designs : goal.returns-clause-designs
returns-clause-designs c = keeps_design
