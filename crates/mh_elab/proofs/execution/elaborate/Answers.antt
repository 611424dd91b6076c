use Rattle.mh_elab.proofs.WellFormed.{designs_fit}
use Rattle.mh_elab.proofs.execution.elaborate.Goals as goal

pub returns-clause-well_formed : goal.returns-clause-well_formed
returns-clause-well_formed c = λ depth names. designs_fit c.args.m.now.stmts depth names c.elaborate_within.result c.elaborate_within.ensures
