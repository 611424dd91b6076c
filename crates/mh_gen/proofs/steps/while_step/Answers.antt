use Rattle.mh_flat.specs.Body.{statement_while}
use Rattle.mh_gen.proofs.steps.while_step.Goals as goal

pub returns : goal.returns
returns c = statement_while c.args.test c.args.body
